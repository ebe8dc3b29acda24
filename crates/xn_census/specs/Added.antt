-- What is added of one inode.
use Rattle.std.specs.Prelude.{◌≡◌, ℕ, List, [], ◌∷◌, ◌++◌, Option, Some, None, MatchOption}
use Rattle.xn_facts.specs.declared.facts.Contents.{Contents}
use Rattle.xn_facts.specs.declared.facts.Known.{Known}
use Rattle.xn_facts.specs.declared.facts.Node.{Node}
use Rattle.xn_census.specs.declared.census.Held.{Held}

-- what an inode holds, if it holds anything and is known, stands behind what others hold
abbrev pub IsWithHeld : ℕ → Option Known → Option Contents → List Held → List Held → Type 0
IsWithHeld ino known None old new = new ≡ old
IsWithHeld ino None (Some contents) old new = ⊥
IsWithHeld ino (Some known) (Some contents) old new = new ≡ old ++ record { dir = ino; generation = known.generation; contents = contents } ∷ []

-- all that is said of an inode stays
pub record IsKept (old new : Node) : Type 0 where
  pub ino : new.ino ≡ old.ino
  pub is_directory : new.is_directory ≡ old.is_directory
  pub known : new.known ≡ old.known
  pub parents : MatchOption old.parents (new.parents ≡ None) (λ records. MatchOption new.parents ⊥ (λ same. same.items ≡ records.items))
  pub broken : new.broken ≡ old.broken
