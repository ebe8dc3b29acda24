use Rattle.std.proofs.Common.{refl}
use Rattle.xn_attrleaf.proofs.Marking.{takes, taken_there}
use Rattle.xn_attrleaf.proofs.apart.take.Goals as goal

pub returns-then-not-are_free : goal.returns-then-not-are_free
returns-then-not-are_free c = taken_there c.args.from c.args.to c.args.marks.now c.requires.within (λ free. let f = c.if-not-are_free.ensures.1 free in absurd cc)

pub returns : goal.returns
returns c =
    takes c.args.from c.args.to c.args.marks.now c.fill.new.self c.requires.order c.requires.within (c.if-not-are_free.ensures.0 refl) (c.fill.ensures.after (λ y is. is))
