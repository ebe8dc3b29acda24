-- What is found where the manifest is to be, by what is left of its source.
use Rattle.std.specs.Prelude.{◌≡◌, ℕ, ◌<◌, ◌≤◌, List, [], length, Option, IfSome}
use Rattle.xn_meaning.specs.Manifests.{IsManifest, IsFirstBadLine, most_bytes}
use Rattle.xn_rules.specs.Outcome.{IsManifestIn}
use Rattle.xn_machine.specs.Input.{Takes, EndsRightly}
use Rattle.xfsns.specs.declared.manifest.Found.{Found}
use Rattle.xfsns.specs.declared.manifest.Found.TheVariants as found

-- what was found is what the bytes are that were left
abbrev pub FoundIn : Option (List ℕ) → Found → Type 0
FoundIn left (found.Manifest m) = IsManifest m × IfSome left (λ text. IsManifestIn text m)
FoundIn left (found.Outside line) = (0 < line) × IfSome left (λ text. (length text ≤ most_bytes) × IsFirstBadLine text line)
FoundIn left found.Long = IfSome left (λ text. most_bytes < length text)

-- nothing is left where there weren't too many
abbrev pub IsReadBy : Found → Option (List ℕ) → Type 0
IsReadBy (found.Manifest m) left = IfSome left (λ rest. rest ≡ [])
IsReadBy (found.Outside line) left = IfSome left (λ rest. rest ≡ [])
IsReadBy found.Long left = Unit {0}

-- so many bytes were taken of what was left, none only where nothing was left
pub record HasTaken (before now : Option (List ℕ)) (count : ℕ) (into : List ℕ) : Type 0 where
  pub takes : Takes before now count into
  pub ends : EndsRightly before count
