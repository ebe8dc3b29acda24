use Rattle.std.proofs.Common.{◌-◌}
use Rattle.xn_ring.specs.Chains.{lsn_told}
use Rattle.xn_ring.specs.Labels.{IsUnderWay}
use Rattle.xn_ring.proofs.chain.chain_between.Given as goal

abbrev pub invariant-loop-here : goal.invariant-loop-here
invariant-loop-here l = IsUnderWay l.ring_sectors l.outlines l.fn.first l.last l.chain.items l.here

abbrev pub decreases-loop-here : goal.decreases-loop-here
decreases-loop-here l = lsn_told l.last - lsn_told l.here
