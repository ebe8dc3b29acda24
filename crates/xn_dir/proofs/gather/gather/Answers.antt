use Rattle.std.proofs.Common.{arith}
use Rattle.std.proofs.lemmas.Result.{err_from_is_err_and}
use Rattle.xn_inode.proofs.Frames.{stays_on}
use Rattle.xn_dir.proofs.Gatherings.{all_gathered, all_read, next_breaks, next_gathered, read_on}
use Rattle.xn_dir.proofs.GatheredHashes.{have_hashes}
use Rattle.xn_dir.proofs.gather.gather.Goals as goal

pub returns-in_err-gather_next-clause-fault : goal.returns-in_err-gather_next-clause-fault
returns-in_err-gather_next-clause-fault g c =
    let loop = c.loop-number.invariant in
    let store = c.args.store.now in
    let p = err_from_is_err_and c.from_residual-in_err-gather_next.result c.from_residual-in_err-gather_next.ensures.1 in
    rw (p.1, p.2) (next_breaks g.S.Store (g.S.Store.shape store) c.args.fork.now c.loop-number.from _ c.in-Some.number c.in-Some.block c.loop-number.gathered store c.loop-number.store c.gather_next.new.store c.in_err-gather_next.field-0.0
    loop.stays loop.gathers c.in-Some.ensures (rw loop.stays.shape_stays at c.in_err-gather_next.ensures.fault))

pub returns-in_err-gather_next-clause-fetches : goal.returns-in_err-gather_next-clause-fetches
returns-in_err-gather_next-clause-fetches g c =
    let loop = c.loop-number.invariant in
    let next = c.in-Some.ensures in
    all_read _ _ _ _ (read_on c.args.fork.now.extents c.loop-number.from _ _ _ c.in-Some.number c.in-Some.block loop.reads next.at_least next.below next.there c.in_err-gather_next.ensures.fetches)

pub loop-number-preserved : goal.loop-number-preserved
loop-number-preserved g c =
    let loop = c.loop-number.invariant in
    let store = c.args.store.now in
    let next = c.in-Some.ensures in
    let held = c.in_ok-gather_next.ensures.holds in
    record {
      stays = stays_on g.S.Store g.met.S.Store.only_read_on _ _ _ loop.stays c.in_ok-gather_next.ensures.stays;
      gathers =
          next_gathered (g.S.Store.shape store) c.args.fork.now (g.S.Store.image store) c.loop-number.from _ c.in-Some.number c.in-Some.block c.loop-number.gathered c.gather_next.new.gathered held.0 loop.gathers next held.1
          (rw (loop.stays.image_stays, loop.stays.shape_stays) at held.2);
      reads = read_on c.args.fork.now.extents c.loop-number.from _ _ _ c.in-Some.number c.in-Some.block loop.reads next.at_least next.below next.there c.in_ok-gather_next.ensures.fetches;
      high = omega (arith, next.below);
      low = omega arith;
    }

pub returns-clause-holds : goal.returns-clause-holds
returns-clause-holds g c =
    let loop = c.loop-number.invariant in
    let store = c.args.store.now in
    all_gathered (g.S.Store.shape store) c.args.fork.now (g.S.Store.image store) c.loop-number.from c.loop-number.gathered loop.gathers loop.high c.in_default.ensures

pub returns-clause-hashes : goal.returns-clause-hashes
returns-clause-hashes g c =
    have_hashes (g.S.Store.shape c.args.store.now) c.args.fork.now (g.S.Store.image c.args.store.now) c.loop-number.from c.loop-number.gathered c.loop-number.invariant.gathers
