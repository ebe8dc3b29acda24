use Rattle.std.proofs.Common.{ap, sym, Some, ◌∙◌}
use Rattle.std.proofs.lemmas.Result.{err_from_is_err_and}
use Rattle.xn_short.specs.Widths.{byte_count}
use Rattle.xn_short.proofs.Verdicts.{at_entry, at_count, at_end, at_nothing}
use Rattle.xn_short.proofs.check.check.Goals as goal

pub returns-then-is_wide_count_wrong : goal.returns-then-is_wide_count_wrong
returns-then-is_wide_count_wrong c =
    at_count c.args.bytes.now (byte_count c.in_ok-width.width) c.in_ok-width.ensures.width c.in_ok-width.ensures.within (sym c.is_wide_count_wrong.ensures ∙ c.if-is_wide_count_wrong.true)
    ∙ ap Some (sym c.fault_at.ensures)

pub returns-in_err-end : goal.returns-in_err-end
returns-in_err-end c =
    let p = err_from_is_err_and c.from_residual-in_err-end.result c.from_residual-in_err-end.ensures.1 in
    let right = sym c.is_wide_count_wrong.ensures ∙ c.if-is_wide_count_wrong.false in
    rw (p.1, p.2) (at_entry c.args.bytes.now (byte_count c.in_ok-width.width) c.in_err-end.field-0.0.at c.in_ok-width.ensures.width c.in_ok-width.ensures.within right c.in_err-end.ensures)

pub returns-then-end-bytes : goal.returns-then-end-bytes
returns-then-end-bytes c =
    at_end c.args.bytes.now (byte_count c.in_ok-width.width) c.in_ok-end.end c.in_ok-width.ensures.width c.in_ok-width.ensures.within (sym c.is_wide_count_wrong.ensures ∙ c.if-is_wide_count_wrong.false) c.in_ok-end.ensures c.if-end-bytes.true
    ∙ ap Some (sym c.fault_at-then-end-bytes.ensures)

pub returns : goal.returns
returns c = at_nothing c.args.bytes.now (byte_count c.in_ok-width.width) c.in_ok-end.end c.in_ok-width.ensures.width c.in_ok-width.ensures.within (sym c.is_wide_count_wrong.ensures ∙ c.if-is_wide_count_wrong.false) c.in_ok-end.ensures c.if-end-bytes.false
