use Rattle.std.proofs.lemmas.Result.{err_from_is_err_and}
use Rattle.xn_log.specs.Records.{record_in}
use Rattle.xn_ring.proofs.Decoding.{record_missing, record_told}
use Rattle.xn_ring.proofs.live.read_record.Goals as goal

pub returns-in_err-record-clause-missing : goal.returns-in_err-record-clause-missing
returns-in_err-record-clause-missing g c =
    let p = err_from_is_err_and c.from_residual-in_err-record.result c.from_residual-in_err-record.ensures.1 in
    rw (p.1, p.2)
    (record_missing c.args.geometry.now (g.M.Machine.image c.args.machine.now) (g.M.Machine.sector_count c.args.machine.now) _ _ c.args.outline.now c.in_ok-bytes.bytes.items _ _ (record_in c.args.outline.now.sector c.deref.result.now) c.in_err-record.field-0.0
    c.requires.log.length c.requires.log.there c.log_sectors.ensures c.deref.ensures.value c.uuid.ensures c.in_ok-bytes.ensures.bytes c.in_err-record.ensures)

pub returns-clause-whole : goal.returns-clause-whole
returns-clause-whole g c =
    record_told c.args.geometry.now (g.M.Machine.image c.args.machine.now) _ c.args.outline.now c.in_ok-bytes.bytes.items _ c.in_ok-record.record c.deref.ensures.value c.in_ok-bytes.ensures.bytes c.in_ok-record.ensures.1
