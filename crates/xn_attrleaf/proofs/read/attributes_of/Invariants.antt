use Rattle.std.proofs.Common.{◌≡◌, ◌++◌, map}
use Rattle.xn_bytes.specs.Numbers.{number_at}
use Rattle.xn_bytes.specs.AttributeLeaves.{attr_entries, attribute_at}
use Rattle.xn_attrleaf.specs.EntriesRead.{entries_from}
use Rattle.xn_attrleaf.proofs.read.attributes_of.Given as goal

abbrev pub invariant-loop-index : goal.invariant-loop-index
invariant-loop-index l =
    l.attributes.items ++ map (attribute_at l.block) (entries_from l.index (number_at 2 56 l.block) l.block) ≡ map (attribute_at l.block) (attr_entries l.block)
