use Rattle.std.proofs.lemmas.Result.{err_from_is_err_and}
use Rattle.xn_inode.proofs.Frames.{stays_on}
use Rattle.xn_ns.specs.Steps.{place_of}
use Rattle.xn_ns.proofs.Fetches.{fetched, within_path}
use Rattle.xn_ns.proofs.WalksOn.{goes_on, all_taken, refused_here, given_up}
use Rattle.xn_ns.proofs.walk.walk_from_root.Goals as goal

pub returns-in_err-place-clause-answered : goal.returns-in_err-place-clause-answered
returns-in_err-place-clause-answered g c =
    let loop = c.loop-part.invariant in
    let taken = rw (loop.stays.shape_stays, loop.stays.image_stays) at c.in_err-place.ensures.taken in
    let p = err_from_is_err_and c.from_residual.result c.from_residual.ensures.1 in
    rw (p.1, p.2)
    (given_up (g.S.Store.shape c.args.store.now) c.args.manifest.now (g.S.Store.image c.args.store.now) c.args.path.now (place_of c.loop-part.here) c.loop-part.rest.now c.in-Some.part.now c.in-Some.behind.now _ _ _ c.in_err-place.field-0.0
    loop.leads c.in-Some.ensures.parts loop.stays.faults_later taken)

pub returns-in-Refused-clause-answered : goal.returns-in-Refused-clause-answered
returns-in-Refused-clause-answered g c =
    let loop = c.loop-part.invariant in
    let taken = rw (loop.stays.shape_stays, loop.stays.image_stays, c.in-Refused.is) at c.in_ok-place.ensures.taken in
    refused_here (g.S.Store.shape c.args.store.now) c.args.manifest.now (g.S.Store.image c.args.store.now) c.args.path.now (place_of c.loop-part.here) c.loop-part.rest.now c.in-Some.part.now c.in-Some.behind.now _ _ _ c.in-Refused.error
    loop.leads c.in-Some.ensures.parts taken

pub returns-in-Refused-clause-fetches : goal.returns-in-Refused-clause-fetches
returns-in-Refused-clause-fetches g c =
    let loop = c.loop-part.invariant in
    let more = rw (loop.stays.shape_stays, loop.stays.image_stays) at c.in_ok-place.ensures.fetches in
    within_path (g.S.Store.shape c.args.store.now) c.args.manifest.now (g.S.Store.image c.args.store.now) c.args.path.now c.in-Some.behind.now _ (g.S.Store.fetches c.take_part.new.store)
    (fetched (g.S.Store.shape c.args.store.now) c.args.manifest.now (g.S.Store.image c.args.store.now) c.args.path.now (place_of c.loop-part.here) c.loop-part.rest.now c.in-Some.part.now c.in-Some.behind.now _ (g.S.Store.fetches c.loop-part.store) (g.S.Store.fetches c.take_part.new.store)
    loop.leads c.in-Some.ensures.parts more loop.fetches)

pub returns-in_err-place-clause-fetches : goal.returns-in_err-place-clause-fetches
returns-in_err-place-clause-fetches g c =
    let loop = c.loop-part.invariant in
    let more = rw (loop.stays.shape_stays, loop.stays.image_stays) at c.in_err-place.ensures.fetches in
    within_path (g.S.Store.shape c.args.store.now) c.args.manifest.now (g.S.Store.image c.args.store.now) c.args.path.now c.in-Some.behind.now _ (g.S.Store.fetches c.take_part.new.store)
    (fetched (g.S.Store.shape c.args.store.now) c.args.manifest.now (g.S.Store.image c.args.store.now) c.args.path.now (place_of c.loop-part.here) c.loop-part.rest.now c.in-Some.part.now c.in-Some.behind.now _ (g.S.Store.fetches c.loop-part.store) (g.S.Store.fetches c.take_part.new.store)
    loop.leads c.in-Some.ensures.parts more loop.fetches)

pub loop-part-preserved : goal.loop-part-preserved
loop-part-preserved g c =
    let loop = c.loop-part.invariant in
    let taken = rw (loop.stays.shape_stays, loop.stays.image_stays, c.in-Goes.is) at c.in_ok-place.ensures.taken in
    let more = rw (loop.stays.shape_stays, loop.stays.image_stays) at c.in_ok-place.ensures.fetches in
    record {
      stays = stays_on g.S.Store g.met.S.Store.only_read_on _ _ _ loop.stays c.in_ok-place.ensures.stays;
      fetches = fetched (g.S.Store.shape c.args.store.now) c.args.manifest.now (g.S.Store.image c.args.store.now) c.args.path.now (place_of c.loop-part.here) c.loop-part.rest.now c.in-Some.part.now c.in-Some.behind.now _ (g.S.Store.fetches c.loop-part.store) (g.S.Store.fetches c.take_part.new.store)
          loop.leads c.in-Some.ensures.parts more loop.fetches;
      leads = goes_on (g.S.Store.shape c.args.store.now) c.args.manifest.now (g.S.Store.image c.args.store.now) c.args.path.now (place_of c.loop-part.here) c.loop-part.rest.now c.in-Some.part.now c.in-Some.behind.now _ _ c.in-Goes.place
          loop.leads c.in-Some.ensures.parts taken;
    }

pub returns-clause-answered : goal.returns-clause-answered
returns-clause-answered g c = all_taken (g.S.Store.shape c.args.store.now) c.args.manifest.now (g.S.Store.image c.args.store.now) c.args.path.now c.loop-part.here c.loop-part.rest.now _ _ c.loop-part.invariant.leads c.in_default.ensures.parts

pub returns-clause-fetches : goal.returns-clause-fetches
returns-clause-fetches g c = within_path (g.S.Store.shape c.args.store.now) c.args.manifest.now (g.S.Store.image c.args.store.now) c.args.path.now c.loop-part.rest.now _ (g.S.Store.fetches c.loop-part.store) c.loop-part.invariant.fetches
