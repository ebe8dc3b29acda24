use Rattle.std.proofs.Common.{◌-◌, false}
use Rattle.xn_bytes.specs.DataBlock.{header_size, most_regions}
use Rattle.xn_data.specs.Weighing.{pairs_of}
use Rattle.xn_data.proofs.Walk.{Goes, told}
use Rattle.xn_data.proofs.check.check_regions.Given as goal

abbrev pub invariant-loop-at : goal.invariant-loop-at
invariant-loop-at l = Goes l.behind_free l.at l.end l.pairs l.bytes (told most_regions false header_size l.end (pairs_of l.bytes) l.bytes)

abbrev pub decreases-loop-at : goal.decreases-loop-at
decreases-loop-at l = l.end - l.at
