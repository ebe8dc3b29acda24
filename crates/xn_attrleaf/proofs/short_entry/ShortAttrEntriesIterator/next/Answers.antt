use Rattle.std.proofs.Common.{◌-◌, ap, sym, ◌∙◌, arith, length}
use Rattle.xn_bytes.specs.ShortAttributes.{attributes_there}
use Rattle.xn_attrleaf.specs.ShortViewed.{attribute_of}
use Rattle.xn_attrleaf.proofs.ShortEnds.{there_parts, none_left, front_first}
use Rattle.xn_attrleaf.proofs.short_entry.ShortAttrEntriesIterator.next.Goals as goal

pub returns-then-self-eq0-clause-steps : goal.returns-then-self-eq0-clause-steps
returns-then-self-eq0-clause-steps c =
    let none = sym c.self.view_is ∙ none_left c.self.inside.left c.self.inside.rest.now c.if-self-eq0.true in
    (none, none)

pub split_front-requires : goal.split_front-requires
split_front-requires c = (there_parts c.self.inside.left c.self.inside.rest.now (omega arith) c.self.invariant).0

pub invariant_of-self : goal.invariant_of-self
invariant_of-self c =
    ap (attributes_there (c.self.inside.left - 1)) c.split_front.ensures.rest
    ∙ (there_parts c.self.inside.left c.self.inside.rest.now (omega arith) c.self.invariant).1

pub returns-clause-steps : goal.returns-clause-steps
returns-clause-steps c = front_first c.args.self.now c.self.inside.left c.self.inside.rest.now c.split_front.result.1.now (attribute_of c.split_front.result.0) c.self.view_is (omega arith) c.split_front.ensures.attribute c.split_front.ensures.rest

pub returns-clause-goes : goal.returns-clause-goes
returns-clause-goes c =
    let steps = front_first c.args.self.now c.self.inside.left c.self.inside.rest.now c.split_front.result.1.now (attribute_of c.split_front.result.0) c.self.view_is (omega arith) c.split_front.ensures.attribute c.split_front.ensures.rest in
    record { on = λ _. (tt, tt, omega (arith, ap length steps)); keeps = tt; rests = λ _. tt }
