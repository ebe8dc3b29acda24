use Rattle.std.proofs.Common.{◌≡◌, ◌≤◌, ◌<◌, ℕ}
use Rattle.std.specs.Prelude.{IfSome}
use Rattle.xn_bytes.specs.Trees.{left_on}
use Rattle.xn_datree.proofs.trail.Trail.open_end.Given as goal

abbrev pub invariant-loop-level : goal.invariant-loop-level
invariant-loop-level l = (other : ℕ) → l.level ≤ other → other < 5 → IfSome (left_on other l.self) (λ one. one.right ≡ 0)
