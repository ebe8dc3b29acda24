use Rattle.xn_bytes.specs.Numbers.{number_at}
use Rattle.xn_bytes.specs.AttributeLeaves.{AttrEntry, attr_entries}
use Rattle.xn_datree.proofs.Rising.{GoesOn}
use Rattle.xn_attrleaf.specs.EntriesRead.{entries_from}
use Rattle.xn_attrleaf.proofs.read.is_rising.Given as goal

abbrev pub invariant-loop-index : goal.invariant-loop-index
invariant-loop-index l = GoesOn (λ (entry : AttrEntry). entry.hash) (attr_entries l.block) l.least (entries_from l.index (number_at 2 56 l.block) l.block)
