use Rattle.xn_bytes.specs.Inode.{attr_fork_of}
use Rattle.xn_attrleaf.specs.ShortViewed.{attribute_of}
use Rattle.xn_attr.proofs.Searching.{seeks_on}
use Rattle.xn_attr.proofs.short_form.has.Goals as goal

pub loop-attribute-preserved : goal.loop-attribute-preserved
loop-attribute-preserved c =
    seeks_on (attr_fork_of c.args.inode.now) (attribute_of c.args.wanted.now) (attribute_of c.in-Some.attribute) c.loop-attribute.attribute-iterator c.next.new.self c.in-Some.ensures.steps
    (λ same. let found = c.is_same.ensures.1 same in let missed = c.if-is_same.false in absurd cc) c.loop-attribute.invariant
