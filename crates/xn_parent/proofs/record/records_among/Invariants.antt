use Rattle.xn_parent.proofs.Among.{AreAmong}
use Rattle.std.proofs.Common.{take}
use Rattle.xn_parent.proofs.record.records_among.Given as goal

abbrev pub invariant-loop-attribute : goal.invariant-loop-attribute
invariant-loop-attribute l = AreAmong (take l.attribute-index l.attributes) l.parents.items
