-- Numbers that are met where steps lead, and those of them whose own steps are still to be taken.
use Rattle.std.specs.Prelude.{◌≡◌, ℕ, ◌+◌, ◌⊎◌, List, length, Any, Contains}
use Rattle.std.specs.Ordering.{nat_cmp}
use Rattle.std.specs.BTreeSet.{BTreeSet, IsOrdered}
use Rattle.xn_reach.specs.declared.step.Step.{Step}
use Rattle.xn_reach.specs.Steps.{Leads}

-- What steps lead to was met, beside what had been met before, and all that is new waits.
pub record Meets (steps : List Step) (old new : BTreeSet ℕ) (waited waiting : List ℕ) : Type 0 where
  pub kept : (number : ℕ) → Contains old.keys number → Contains new.keys number
  pub ends : (number : ℕ) → Any (λ s. s.to ≡ number) steps → Contains new.keys number
  pub news : (number : ℕ) → Contains new.keys number → Contains old.keys number ⊎ (Any (λ s. s.to ≡ number) steps × Contains waiting number)
  pub still : (number : ℕ) → Contains waited number → Contains waiting number
  pub waits : (number : ℕ) → Contains waiting number → Contains waited number ⊎ Any (λ s. s.to ≡ number) steps
  pub grown : length new.keys + length waited ≡ length old.keys + length waiting
  pub ordered : IsOrdered nat_cmp old → IsOrdered nat_cmp new

-- The start was met, and nothing to which steps don't lead. What waits was met; and each step from a number that was met and
-- doesn't wait leads to one that was.
pub record IsUnderWay (steps : List Step) (start : ℕ) (met : BTreeSet ℕ) (waiting : List ℕ) : Type 0 where
  pub started : Contains met.keys start
  pub reached : (number : ℕ) → Contains met.keys number → (path : List ℕ) × Leads steps start path number
  pub waits : (number : ℕ) → Contains waiting number → Contains met.keys number
  pub left : (number next : ℕ) → Contains met.keys number → Any (λ s. (s.from ≡ number) × (s.to ≡ next)) steps → Contains waiting number ⊎ Contains met.keys next
  pub ordered : IsOrdered nat_cmp met
