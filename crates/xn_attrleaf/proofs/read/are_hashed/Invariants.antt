use Rattle.std.proofs.Common.{◌≡◌}
use Rattle.xn_bytes.specs.Attributes.{attribute_hash}
use Rattle.xn_bytes.specs.AttributeLeaves.{AttrEntry, attribute_at}
use Rattle.xn_attrleaf.specs.EntriesRead.{AllBelow}
use Rattle.xn_attrleaf.proofs.read.are_hashed.Given as goal

abbrev pub invariant-loop-index : goal.invariant-loop-index
invariant-loop-index l = AllBelow (λ (entry : AttrEntry). entry.hash ≡ attribute_hash (attribute_at l.block entry)) l.block l.index
