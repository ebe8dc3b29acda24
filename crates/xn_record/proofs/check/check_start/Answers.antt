use Rattle.std.proofs.Common.{refl, ◌∙◌}
use Rattle.std.proofs.lemmas.Result.{err_from_is_err_and}
use Rattle.xn_record.proofs.Chains.{carried, ended, from_cycle, from_length, from_lsn, from_version}
use Rattle.xn_record.specs.Checks.{start_fault}
use Rattle.xn_record.proofs.check.check_start.Goals as goal

pub returns-in_err-expect_u32-clause-passes : goal.returns-in_err-expect_u32-clause-passes
returns-in_err-expect_u32-clause-passes c = λ behind.
    let bytes = c.args.bytes.now in
    let p = err_from_is_err_and c.from_residual.result c.from_residual.ensures.1 in
    let all = start_fault c.args.ring_sectors c.args.sector bytes behind in
    let cycle = from_cycle c.args.ring_sectors c.args.sector bytes behind in
    rw (p.1, p.2) (carried all all cycle behind c.in_err-expect_u32.field-0.0 refl (c.in_err-expect_u32.ensures.passes cycle))

pub returns-in_err-check_cycle-clause-passes : goal.returns-in_err-check_cycle-clause-passes
returns-in_err-check_cycle-clause-passes c = λ behind.
    let bytes = c.args.bytes.now in
    let p = err_from_is_err_and c.from_residual-in_err-check_cycle.result c.from_residual-in_err-check_cycle.ensures.1 in
    let all = start_fault c.args.ring_sectors c.args.sector bytes behind in
    let cycle = from_cycle c.args.ring_sectors c.args.sector bytes behind in
    let version = from_version c.args.ring_sectors c.args.sector bytes behind in
    rw (p.1, p.2) (carried all cycle version behind c.in_err-check_cycle.field-0.0 (c.in_ok-expect_u32.ensures.passes cycle) (c.in_err-check_cycle.ensures.passes version))

pub returns-in_err-expect_u32-2-clause-passes : goal.returns-in_err-expect_u32-2-clause-passes
returns-in_err-expect_u32-2-clause-passes c = λ behind.
    let bytes = c.args.bytes.now in
    let p = err_from_is_err_and c.from_residual-in_err-expect_u32-2.result c.from_residual-in_err-expect_u32-2.ensures.1 in
    let all = start_fault c.args.ring_sectors c.args.sector bytes behind in
    let cycle = from_cycle c.args.ring_sectors c.args.sector bytes behind in
    let version = from_version c.args.ring_sectors c.args.sector bytes behind in
    let length = from_length c.args.ring_sectors c.args.sector bytes behind in
    rw (p.1, p.2) (carried all version length behind c.in_err-expect_u32-2.field-0.0 (c.in_ok-expect_u32.ensures.passes cycle ∙ c.in_ok-check_cycle.ensures.passes version) (c.in_err-expect_u32-2.ensures.passes length))

pub returns-in_err-check_length-clause-passes : goal.returns-in_err-check_length-clause-passes
returns-in_err-check_length-clause-passes c = λ behind.
    let bytes = c.args.bytes.now in
    let p = err_from_is_err_and c.from_residual-in_err-check_length.result c.from_residual-in_err-check_length.ensures.1 in
    let all = start_fault c.args.ring_sectors c.args.sector bytes behind in
    let cycle = from_cycle c.args.ring_sectors c.args.sector bytes behind in
    let version = from_version c.args.ring_sectors c.args.sector bytes behind in
    let length = from_length c.args.ring_sectors c.args.sector bytes behind in
    let lsn = from_lsn c.args.sector bytes behind in
    rw (p.1, p.2) (carried all length lsn behind c.in_err-check_length.field-0.0 (c.in_ok-expect_u32.ensures.passes cycle ∙ c.in_ok-check_cycle.ensures.passes version ∙ c.in_ok-expect_u32-2.ensures.passes length) (c.in_err-check_length.ensures.passes lsn))

pub returns-clause-passes : goal.returns-clause-passes
returns-clause-passes c = λ behind.
    let bytes = c.args.bytes.now in
    let all = start_fault c.args.ring_sectors c.args.sector bytes behind in
    let cycle = from_cycle c.args.ring_sectors c.args.sector bytes behind in
    let version = from_version c.args.ring_sectors c.args.sector bytes behind in
    let length = from_length c.args.ring_sectors c.args.sector bytes behind in
    let lsn = from_lsn c.args.sector bytes behind in
    ended all lsn behind c.check_lsn.result (c.in_ok-expect_u32.ensures.passes cycle ∙ c.in_ok-check_cycle.ensures.passes version ∙ c.in_ok-expect_u32-2.ensures.passes length ∙ c.in_ok-check_length.ensures.passes lsn) (c.check_lsn.ensures behind)
