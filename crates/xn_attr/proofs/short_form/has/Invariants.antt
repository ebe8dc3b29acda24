use Rattle.xn_bytes.specs.Inode.{attr_fork_of}
use Rattle.xn_attrleaf.specs.ShortViewed.{attribute_of}
use Rattle.xn_attr.proofs.Searching.{Seeks}
use Rattle.xn_attr.proofs.short_form.has.Given as goal

abbrev pub invariant-loop-attribute : goal.invariant-loop-attribute
invariant-loop-attribute l = Seeks (attr_fork_of l.inode) (attribute_of l.wanted) l.attribute-iterator
