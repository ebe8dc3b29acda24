use Rattle.std.proofs.Common.{◌≡◌, ◌+◌, ◌-◌, ◌*◌, arith}
use Rattle.xn_ring.proofs.ReadPieces.{told_turned}
use Rattle.xn_ring.proofs.reading.read_turned.Goals as goal

pub returns-clause-bytes : goal.returns-clause-bytes
returns-clause-bytes g c =
    let end : c.args.from + (c.log_sectors.result - c.args.from) ≡ 8 * c.args.geometry.now.log_blocks = omega (arith, c.log_sectors.ensures) in
    told_turned c.args.geometry.now (g.M.Machine.image c.args.machine.now) _ (g.M.Machine.sector_count c.args.machine.now) c.args.from _ c.args.count c.in_ok-bytes.bytes.items c.in_ok-front.front.items _ _
    c.requires.log.length c.requires.log.there end (omega arith) c.requires.once c.read_straight-2.ensures.only_read.image_stays
    c.in_ok-extend_from_slice.ensures.items c.deref.ensures.value c.in_ok-bytes.ensures.bytes c.in_ok-front.ensures.bytes
