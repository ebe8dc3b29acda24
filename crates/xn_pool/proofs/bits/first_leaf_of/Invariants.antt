use Rattle.std.proofs.Common.{◌≡◌, ℕ, ◌*◌, ◌-◌, ◌≤◌}
use Rattle.xn_pool.specs.Trees.{level_below}
use Rattle.xn_pool.proofs.bits.first_leaf_of.Given as goal

abbrev pub invariant-loop-first : goal.invariant-loop-first
invariant-loop-first l = record { level : (levels : ℕ) × (l.first ≡ level_below levels 0); small : 63 * l.first ≤ l.count }

abbrev pub decreases-loop-first : goal.decreases-loop-first
decreases-loop-first l = l.count - l.first
