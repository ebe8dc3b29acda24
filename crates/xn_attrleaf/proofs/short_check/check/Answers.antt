use Rattle.std.proofs.Common.{◌∙◌, Some, sym, ap}
use Rattle.xn_attrleaf.proofs.ShortEnds.{has_end, missing, other_size, right_size}
use Rattle.xn_attrleaf.proofs.short_check.check.Goals as goal

pub returns-in_default : goal.returns-in_default
returns-in_default c = missing c.args.fork.now (sym c.in_default.is ∙ c.end_of_attributes.ensures) ∙ ap Some (sym c.fault_at.ensures)

pub returns-then-end-from : goal.returns-then-end-from
returns-then-end-from c =
    other_size c.args.fork.now c.in-Some.end (has_end c.args.fork.now c.in-Some.end c.in-Some.ensures) (λ same. c.if-end-from.true (same ∙ sym (c.from.ensures ∙ c.u16_at.ensures)))
    ∙ ap Some (sym c.fault_at-then-end-from.ensures)

pub returns : goal.returns
returns c = right_size c.args.fork.now c.in-Some.end (has_end c.args.fork.now c.in-Some.end c.in-Some.ensures) (c.if-end-from.false ∙ c.from.ensures ∙ c.u16_at.ensures)
