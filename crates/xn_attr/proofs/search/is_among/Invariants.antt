use Rattle.std.proofs.Common.{take}
use Rattle.std.specs.Prelude.{Contains}
use Rattle.xn_attrleaf.specs.ShortViewed.{attribute_of}
use Rattle.xn_attr.proofs.search.is_among.Given as goal

abbrev pub invariant-loop-attribute : goal.invariant-loop-attribute
invariant-loop-attribute l = Contains (take l.attribute-index l.attributes) (attribute_of l.wanted) → ⊥
