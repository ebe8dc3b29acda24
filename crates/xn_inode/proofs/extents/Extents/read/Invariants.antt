use Rattle.xn_inode.proofs.Records.{Read}
use Rattle.xn_inode.proofs.extents.Extents.read.Given as goal

abbrev pub invariant-loop-at : goal.invariant-loop-at
invariant-loop-at l = Read l.fn.count l.at l.least l.fn.bytes l.rest l.runs.items
