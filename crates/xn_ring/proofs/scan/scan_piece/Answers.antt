use Rattle.xn_ring.proofs.Scanning.{piece_told}
use Rattle.xn_ring.proofs.scan.scan_piece.Goals as goal

pub returns-clause-noted : goal.returns-clause-noted
returns-clause-noted g c =
    piece_told c.args.geometry.now (g.M.Machine.image c.args.machine.now) (g.M.Machine.sector_count c.args.machine.now) c.args.start c.args.count _ c.in_ok-bytes.bytes.items _ _ c.args.found.now c.note_piece.new.self
    c.requires.log.length c.requires.log.there c.requires.log.least c.requires.within c.requires.few c.log_sectors.ensures c.deref.ensures.value c.uuid.ensures c.in_ok-bytes.ensures.size c.in_ok-bytes.ensures.bytes c.in_ok-note_piece.ensures.noted
