use Rattle.std.proofs.Common.{refl, ◌∙◌}
use Rattle.std.proofs.lemmas.Result.{err_from_is_err_and}
use Rattle.xn_record.proofs.Chains.{carried, ended, from_size, from_uuid}
use Rattle.xn_record.specs.Checks.{end_fault}
use Rattle.xn_record.proofs.check.check_end.Goals as goal

pub returns-in_err-expect_u32 : goal.returns-in_err-expect_u32
returns-in_err-expect_u32 c = λ behind.
    let bytes = c.args.bytes.now in
    let p = err_from_is_err_and c.from_residual.result c.from_residual.ensures.1 in
    let all = end_fault c.args.uuid.now bytes behind in
    let uuid = from_uuid c.args.uuid.now bytes behind in
    rw (p.1, p.2) (carried all all uuid behind c.in_err-expect_u32.field-0.0 refl (c.in_err-expect_u32.ensures.passes uuid))

pub returns-in_err-check_uuid : goal.returns-in_err-check_uuid
returns-in_err-check_uuid c = λ behind.
    let bytes = c.args.bytes.now in
    let p = err_from_is_err_and c.from_residual-in_err-check_uuid.result c.from_residual-in_err-check_uuid.ensures.1 in
    let all = end_fault c.args.uuid.now bytes behind in
    let uuid = from_uuid c.args.uuid.now bytes behind in
    let size = from_size bytes behind in
    rw (p.1, p.2) (carried all uuid size behind c.in_err-check_uuid.field-0.0 (c.in_ok-expect_u32.ensures.passes uuid) (c.in_err-check_uuid.ensures size))

pub returns : goal.returns
returns c = λ behind.
    let bytes = c.args.bytes.now in
    let all = end_fault c.args.uuid.now bytes behind in
    let uuid = from_uuid c.args.uuid.now bytes behind in
    let size = from_size bytes behind in
    ended all size behind c.expect_u32-2.result (c.in_ok-expect_u32.ensures.passes uuid ∙ c.in_ok-check_uuid.ensures size) (c.expect_u32-2.ensures.passes behind)
