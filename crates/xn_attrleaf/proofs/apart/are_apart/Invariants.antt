use Rattle.xn_attrleaf.proofs.Marking.{AreMarked}
use Rattle.xn_attrleaf.proofs.apart.are_apart.Given as goal

abbrev pub invariant-loop-index : goal.invariant-loop-index
invariant-loop-index l = AreMarked l.block l.index l.marks
