use Rattle.std.proofs.Common.{◌-◌}
use Rattle.xn_data.proofs.Searching.{Searched}
use Rattle.xn_data.proofs.tail.first_with_hash.Given as goal

abbrev pub invariant-loop-low : goal.invariant-loop-low
invariant-loop-low l = Searched l.hash l.count l.at l.bytes l.low l.high

abbrev pub decreases-loop-low : goal.decreases-loop-low
decreases-loop-low l = l.high - l.low
