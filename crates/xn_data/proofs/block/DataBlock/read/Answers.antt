use Rattle.std.proofs.lemmas.Result.{err_from_is_err_and}
use Rattle.xn_data.proofs.Forms.{form_read, holds_read, no_form_with_fault}
use Rattle.xn_data.proofs.Places.{fault_within}
use Rattle.xn_data.proofs.block.DataBlock.read.Goals as goal

pub returns-in_err-check-clause-only : goal.returns-in_err-check-clause-only
returns-in_err-check-clause-only c = λ form holds. absurd (no_form_with_fault c.args.bytes.now c.in_err-check.field-0.0.at c.in_err-check.ensures form holds)

pub returns-in_err-check-clause-within : goal.returns-in_err-check-clause-within
returns-in_err-check-clause-within c =
    let p = err_from_is_err_and c.from_residual.result c.from_residual.ensures.1 in
    rw (p.1, p.2) (fault_within c.args.bytes.now c.in_err-check.field-0.0.at c.requires.size c.in_err-check.ensures)

pub invariant_of-result : goal.invariant_of-result
invariant_of-result c = form_read c.args.bytes.now c.requires.size c.in_ok-check.ensures

pub returns-clause-found : goal.returns-clause-found
returns-clause-found c = form_read c.args.bytes.now c.requires.size c.in_ok-check.ensures

pub returns-clause-only : goal.returns-clause-only
returns-clause-only c = λ form holds. (holds_read c.args.bytes.now form holds).read
