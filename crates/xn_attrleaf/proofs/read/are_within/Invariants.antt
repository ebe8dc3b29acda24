use Rattle.xn_bytes.specs.AttributeLeaves.{IsWithin}
use Rattle.xn_attrleaf.specs.EntriesRead.{AllBelow}
use Rattle.xn_attrleaf.proofs.read.are_within.Given as goal

abbrev pub invariant-loop-index : goal.invariant-loop-index
invariant-loop-index l = AllBelow (IsWithin l.block) l.block l.index
