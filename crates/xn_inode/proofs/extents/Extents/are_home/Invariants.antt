use Rattle.xn_inode.proofs.HomeLists.{AreHomeBelow}
use Rattle.xn_inode.proofs.extents.Extents.are_home.Given as goal

abbrev pub invariant-loop-at : goal.invariant-loop-at
invariant-loop-at l = AreHomeBelow l.geometry l.at l.self
