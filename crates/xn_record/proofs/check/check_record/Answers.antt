use Rattle.std.proofs.Common.{None, ◌∙◌}
use Rattle.std.proofs.lemmas.Result.{err_from_is_err_and}
use Rattle.xn_log.specs.RecordFaults.{body_end_fault, record_fault}
use Rattle.xn_record.proofs.Chains.{carried, ended, from_checksum, from_end, from_stamps, from_start}
use Rattle.xn_record.specs.Checks.{start_fault}
use Rattle.xn_record.proofs.check.check_record.Goals as goal

pub returns-in_err-check_start-clause-passes : goal.returns-in_err-check_start-clause-passes
returns-in_err-check_start-clause-passes c =
    let bytes = c.args.bytes.now in
    let p = err_from_is_err_and c.from_residual.result c.from_residual.ensures.1 in
    let all = record_fault c.args.ring_sectors c.args.sector c.args.uuid.now bytes in
    let checksum = from_checksum c.args.ring_sectors c.args.sector c.args.uuid.now bytes in
    let start = start_fault c.args.ring_sectors c.args.sector bytes checksum in
    let first = from_start c.args.ring_sectors c.args.sector c.args.uuid.now bytes in
    rw (p.1, p.2) (carried all start checksum None c.in_err-check_start.field-0.0 first (c.in_err-check_start.ensures.passes checksum))

pub returns-in_err-check_checksum-clause-passes : goal.returns-in_err-check_checksum-clause-passes
returns-in_err-check_checksum-clause-passes c =
    let bytes = c.args.bytes.now in
    let p = err_from_is_err_and c.from_residual-in_err-check_checksum.result c.from_residual-in_err-check_checksum.ensures.1 in
    let all = record_fault c.args.ring_sectors c.args.sector c.args.uuid.now bytes in
    let checksum = from_checksum c.args.ring_sectors c.args.sector c.args.uuid.now bytes in
    let end = from_end c.args.ring_sectors c.args.sector c.args.uuid.now bytes in
    let first = from_start c.args.ring_sectors c.args.sector c.args.uuid.now bytes ∙ c.in_ok-check_start.ensures.passes checksum in
    rw (p.1, p.2) (carried all checksum end None c.in_err-check_checksum.field-0.0 first (c.in_err-check_checksum.ensures end))

pub returns-in_err-check_end-clause-passes : goal.returns-in_err-check_end-clause-passes
returns-in_err-check_end-clause-passes c =
    let bytes = c.args.bytes.now in
    let p = err_from_is_err_and c.from_residual-in_err-check_end.result c.from_residual-in_err-check_end.ensures.1 in
    let all = record_fault c.args.ring_sectors c.args.sector c.args.uuid.now bytes in
    let checksum = from_checksum c.args.ring_sectors c.args.sector c.args.uuid.now bytes in
    let end = from_end c.args.ring_sectors c.args.sector c.args.uuid.now bytes in
    let stamps = from_stamps c.args.ring_sectors c.args.sector bytes in
    let first = from_start c.args.ring_sectors c.args.sector c.args.uuid.now bytes ∙ c.in_ok-check_start.ensures.passes checksum ∙ c.in_ok-check_checksum.ensures end in
    rw (p.1, p.2) (carried all end stamps None c.in_err-check_end.field-0.0 first (c.in_err-check_end.ensures stamps))

pub returns-in_err-check_stamps-clause-passes : goal.returns-in_err-check_stamps-clause-passes
returns-in_err-check_stamps-clause-passes c =
    let bytes = c.args.bytes.now in
    let p = err_from_is_err_and c.from_residual-in_err-check_stamps.result c.from_residual-in_err-check_stamps.ensures.1 in
    let all = record_fault c.args.ring_sectors c.args.sector c.args.uuid.now bytes in
    let checksum = from_checksum c.args.ring_sectors c.args.sector c.args.uuid.now bytes in
    let end = from_end c.args.ring_sectors c.args.sector c.args.uuid.now bytes in
    let stamps = from_stamps c.args.ring_sectors c.args.sector bytes in
    let first = from_start c.args.ring_sectors c.args.sector c.args.uuid.now bytes ∙ c.in_ok-check_start.ensures.passes checksum ∙ c.in_ok-check_checksum.ensures end ∙ c.in_ok-check_end.ensures stamps in
    rw (p.1, p.2) (carried all stamps (body_end_fault bytes) None c.in_err-check_stamps.field-0.0 first c.in_err-check_stamps.ensures)

pub returns-clause-passes : goal.returns-clause-passes
returns-clause-passes c =
    let bytes = c.args.bytes.now in
    let all = record_fault c.args.ring_sectors c.args.sector c.args.uuid.now bytes in
    let checksum = from_checksum c.args.ring_sectors c.args.sector c.args.uuid.now bytes in
    let end = from_end c.args.ring_sectors c.args.sector c.args.uuid.now bytes in
    let stamps = from_stamps c.args.ring_sectors c.args.sector bytes in
    let first = from_start c.args.ring_sectors c.args.sector c.args.uuid.now bytes ∙ c.in_ok-check_start.ensures.passes checksum ∙ c.in_ok-check_checksum.ensures end ∙ c.in_ok-check_end.ensures stamps ∙ c.in_ok-check_stamps.ensures in
    ended all (body_end_fault bytes) None c.check_body.result first c.check_body.ensures.passes
