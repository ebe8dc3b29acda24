use Rattle.std.proofs.Common.{◌≡◌, ◌++◌}
use Rattle.xn_attrleaf.proofs.short.list.Given as goal

abbrev pub invariant-loop-attribute : goal.invariant-loop-attribute
invariant-loop-attribute l = l.attributes.items ++ l.attribute-iterator ≡ l.short
