use Rattle.std.proofs.Common.{arith}
use Rattle.std.proofs.lemmas.Result.{err_from_is_err_and}
use Rattle.xn_attrleaf.proofs.ShortEnds.{fault_within}
use Rattle.xn_attrleaf.proofs.ShortAttributesForms.{form_read, holds_read, none_with_fault}
use Rattle.xn_attrleaf.proofs.short.ShortAttrs.read.Goals as goal

pub returns-in_err-check-clause-only : goal.returns-in_err-check-clause-only
returns-in_err-check-clause-only c = λ attributes holds. absurd (none_with_fault c.args.fork.now c.in_err-check.field-0.0.at c.in_err-check.ensures attributes holds)

pub returns-clause-found : goal.returns-clause-found
returns-clause-found c = form_read c.args.fork.now (λ i. omega (arith, c.type_inv.fork i)) c.in_ok-check.ensures

pub returns-clause-only : goal.returns-clause-only
returns-clause-only c = λ attributes holds. (holds_read c.args.fork.now attributes holds).read

pub returns-in_err-check-clause-within : goal.returns-in_err-check-clause-within
returns-in_err-check-clause-within c =
    let p = err_from_is_err_and c.from_residual.result c.from_residual.ensures.1 in
    rw (p.1, p.2) (fault_within c.args.fork.now c.in_err-check.field-0.0.at c.in_err-check.ensures)
