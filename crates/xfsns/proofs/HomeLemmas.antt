-- The superblock that is read is that of the image, and so is what a view as it was made shows.
use Rattle.std.proofs.Common.{◌≡◌, ℕ, ◌*◌, ◌/◌, List, [], length, Option, Some, None, Result, Ok, Err, refl, sym, ap, subst, ◌∙◌, arith}
use Rattle.std.specs.Prelude.{IfSome, IfErr, MatchResult, option_map}
use Rattle.std.specs.Result.{result_ok}
use Rattle.xn_bytes.specs.Numbers.{sector_of}
use Rattle.xn_bytes.specs.Superblock.{Geometry, IsSuperblock, FirstFieldBroken, geometry_of}
use Rattle.xn_bytes.proofs.SuperblockLemmas.{broken_is_none}
use Rattle.xn_machine.specs.Device.{read_from}
use Rattle.xn_inode.specs.declared.superblock.GeomFault.{GeomFault}
use Rattle.std.proofs.lemmas.Result.{IfErr-at_err}
use Rattle.xn_bytes.specs.Causes.{Rose}
use Rattle.xn_meaning.specs.Manifests.{Manifest}
use Rattle.xn_meaning.specs.NameSpace.{End}
use Rattle.xn_rules.specs.Checking.{CheckEnds}
use Rattle.xn_replay.specs.Overlay.{shown}
use Rattle.xn_text.specs.declared.told.Summary.{Summary}
use Rattle.xn_check.specs.Checked.{Checks, check_end}
use Rattle.xn_check.specs.declared.fault.CheckFault.{CheckFault}
use Rattle.xn_check.specs.declared.fault.CheckFault.TheVariants as checks
use Rattle.xn_ns.specs.declared.fault.SeeFault.{SeeFault}
use Rattle.xn_ns.specs.declared.fault.SeeFault.TheVariants as see
use Rattle.xfsns.specs.declared.home.Said.{Said}
use Rattle.xfsns.specs.Home.{Ended, FindsSuper, end_said}

-- ---- the superblock

pub finds : (image : Option (List ℕ)) (sectors : ℕ) (sector : List ℕ) (r : Result Geometry GeomFault)
    → MatchResult r (λ s. IsSuperblock sector sectors × (s ≡ geometry_of sector)) (λ fault. FirstFieldBroken sector sectors fault.field)
    → IfSome image (λ x. sector ≡ read_from x 0 512) → IfSome image (λ x. length x ≡ 512 * sectors) → FindsSuper image (result_ok r)
finds None sectors sector (Ok g) read same long = tt
finds (Some x) sectors sector (Ok g) read same long =
    let count : length x / 512 ≡ sectors = omega arith in
    (subst (λ (b : List ℕ). IsSuperblock b (length x / 512)) same (rw count read.0), read.1 ∙ ap geometry_of same)
finds None sectors sector (Err fault) read same long = tt
finds (Some x) sectors sector (Err fault) read same long =
    let count : length x / 512 ≡ sectors = omega arith in
    λ accepted. broken_is_none sector sectors fault.field read (subst (λ (b : List ℕ). IsSuperblock b sectors) (sym same) (subst (IsSuperblock (sector_of x 0)) count accepted))

-- ---- a view as it was made

-- a fact of what it shows is one of the image
pub at_home : (P : List ℕ → Type 0) (image : Option (List ℕ)) (kept : List (ℕ × List ℕ)) → kept ≡ [] → IfSome (option_map (λ x. shown x kept) image) P → IfSome image P
at_home P None kept none fact = tt
at_home P (Some x) kept none fact = subst (λ (k : List (ℕ × List ℕ)). P (shown x k)) none fact

-- a fact of how much was read by then
pub now_same : (P : List ℕ → ℕ → Type 0) (image : Option (List ℕ)) (now later : ℕ) → later ≡ now → IfSome image (λ x. P x now) → IfSome image (λ x. P x later)
now_same P None now later same fact = tt
now_same P (Some x) now later same fact = subst (P x) (sym same) fact

checked_at_home : (g : Geometry) (m : Manifest) (image : Option (List ℕ)) (checked : Result Summary CheckFault) (ended : Option End) → ended ≡ check_end checked
    → IfSome image (λ x. Checks g m x checked) → IfSome ended (λ end. IfSome image (λ x. CheckEnds g m x end))
checked_at_home g m None checked None same fact = tt
checked_at_home g m None checked (Some end) same fact = tt
checked_at_home g m (Some x) checked None same fact = tt
checked_at_home g m (Some x) checked (Some end) same fact = subst (λ (o : Option End). IfSome o (CheckEnds g m x)) (sym same) fact

checks_of_image : (g : Geometry) (m : Manifest) (image : Option (List ℕ)) (kept : List (ℕ × List ℕ)) (checked : Result Summary CheckFault) → kept ≡ []
    → IfSome image (λ x. Checks g m (shown x kept) checked) → IfSome image (λ x. Checks g m x checked)
checks_of_image g m None kept checked none fact = tt
checks_of_image g m (Some x) kept checked none fact = subst (λ (k : List (ℕ × List ℕ)). Checks g m (shown x k) checked) none fact

said_cause : (before now : ℕ) (checked : Result Summary CheckFault) (result : Result Said SeeFault) → (result ≡ Err see.Read → checked ≡ Err checks.Read)
    → IfErr checked (λ fault. fault ≡ checks.Read → Rose before now) → IfErr result (λ fault. fault ≡ see.Read → Rose before now)
said_cause before now checked (Ok said) same cause = tt
said_cause before now checked (Err fault) same cause =
    λ read. IfErr-at_err (λ f. f ≡ checks.Read → Rose before now) (same (ap (λ (f : SeeFault). Err f) read)) cause refl

-- the checker ended as it does over the image
pub check_ended : (g : Geometry) (m : Manifest) (image : Option (List ℕ)) (kept : List (ℕ × List ℕ)) (before now : ℕ) (checked : Result Summary CheckFault) (result : Result Said SeeFault)
    → kept ≡ [] → end_said result ≡ check_end checked → (result ≡ Err see.Read → checked ≡ Err checks.Read)
    → IfSome image (λ x. Checks g m (shown x kept) checked) → IfErr checked (λ fault. fault ≡ checks.Read → Rose before now) → Ended (CheckEnds g m) image before now result
check_ended g m image kept before now checked result none end same fact cause = record {
  ends = checked_at_home g m image checked (end_said result) end (checks_of_image g m image kept checked none fact);
  cause = said_cause before now checked result same cause;
}
