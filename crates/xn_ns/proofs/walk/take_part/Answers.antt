use Rattle.std.proofs.Common.{rules}
use Rattle.xn_ns.proofs.Fetches.{looked_before}
use Rattle.xn_ns.proofs.PartsTaken.{directory_seen, taken_from}
use Rattle.xn_ns.specs.Steps.{place_of}
use Rattle.xn_ns.proofs.walk.take_part.Goals as goal

pub returns-in-Detached-clause-taken : goal.returns-in-Detached-clause-taken
returns-in-Detached-clause-taken g c =
    let stays = c.in_ok-look_at.ensures.stays in
    let directory = directory_seen (g.S.Store.shape c.args.store.now) c.args.manifest.now (g.S.Store.image c.args.store.now) c.args.here.ino c.in_ok-look_at.field-0 c.in_ok-look_at.ensures.seen c.in-Detached.is in
    let taken = rw (stays.shape_stays, stays.image_stays) at c.take_part_in.ensures.taken in
    taken_from (g.S.Store.shape c.args.store.now) c.args.manifest.now (g.S.Store.image c.args.store.now) (place_of c.args.here) c.args.part.now _ (g.S.Store.faults c.look_at.new.store) _ c.take_part_in.result (search rules) directory stays.faults_later taken

pub returns-in-Detached-clause-fetches : goal.returns-in-Detached-clause-fetches
returns-in-Detached-clause-fetches g c =
    let stays = c.in_ok-look_at.ensures.stays in
    let directory = directory_seen (g.S.Store.shape c.args.store.now) c.args.manifest.now (g.S.Store.image c.args.store.now) c.args.here.ino c.in_ok-look_at.field-0 c.in_ok-look_at.ensures.seen c.in-Detached.is in
    let more = rw (stays.shape_stays, stays.image_stays) at c.take_part_in.ensures.fetches in
    looked_before (g.S.Store.shape c.args.store.now) c.args.manifest.now (g.S.Store.image c.args.store.now) (place_of c.args.here) c.args.part.now (g.S.Store.fetches c.args.store.now) (g.S.Store.fetches c.look_at.new.store) (g.S.Store.fetches c.take_part_in.new.store)
    (search rules) directory c.in_ok-look_at.ensures.fetches more
