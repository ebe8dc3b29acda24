use Rattle.std.proofs.Common.{◌≡◌, drop}
use Rattle.xn_bytes.specs.Trees.{left_on}
use Rattle.xn_datree.proofs.trail.last_on.Given as goal

abbrev pub invariant-loop-at : goal.invariant-loop-at
invariant-loop-at l = left_on l.level (drop l.at l.met.items) ≡ left_on l.level l.met.items
