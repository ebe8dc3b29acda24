use Rattle.std.proofs.Common.{arith, sym}
use Rattle.std.specs.Prelude.{Contains}
use Rattle.std.proofs.lemmas.Option.{IfSome_then}
use Rattle.std.proofs.lemmas.Result.{err_from_is_err_and}
use Rattle.xn_bytes.specs.DataBlock.{LeafEntry}
use Rattle.xn_inode.proofs.Frames.{stays_at_first, stays_on}
use Rattle.xn_dir.specs.Hashed.{BreaksAtLeaf, LeadsElsewhere, dir_fork}
use Rattle.xn_dir.proofs.Following.{every, IfSome_both, one_more_passed}
use Rattle.xn_dir.proofs.HashedFaults.{fault_later}
use Rattle.xn_dir.proofs.hashed_form.find_among.Goals as goal

pub loop-leaf-init : goal.loop-leaf-init
loop-leaf-init g c = record {
  stays = stays_at_first g.S.Store c.args.store.now c.requires.whole (g.met.S.Store.only_read_at_first c.args.store.now);
  passed = every (g.S.Store.image c.args.store.now) _ (λ x k d below. absurd (omega (arith, below)));
  few = omega arith;
}

pub follow-requires-clause-whole : goal.follow-requires-clause-whole
follow-requires-clause-whole g c = c.loop-leaf.invariant.stays.is_whole

pub follow-requires-clause-blocks : goal.follow-requires-clause-blocks
follow-requires-clause-blocks g c = rw c.loop-leaf.invariant.stays.shape_stays c.requires.blocks

pub returns-in_err-entry-clause-fault : goal.returns-in_err-entry-clause-fault
returns-in_err-entry-clause-fault g c =
    let store = c.args.store.now in
    let so_far = c.loop-leaf.invariant.stays in
    let p = err_from_is_err_and c.from_residual.result c.from_residual.ensures.1 in
    let leaf = c.leaf-item.result in
    rw (p.1, p.2) (fault_later g.S.Store (λ x. BreaksAtLeaf (dir_fork (g.S.Store.shape store) c.args.fork.now x) leaf)
    (λ x rule block. (one : LeafEntry) × Contains c.args.leaves.now one × BreaksAtLeaf (dir_fork (g.S.Store.shape store) c.args.fork.now x) one rule block)
    store c.loop-leaf.store c.follow.new.store c.in_err-entry.field-0.0 so_far
    (λ x rule block breaks. (leaf, (c.loop-leaf.leaf-index, c.loop-leaf-test.true, sym c.leaf-item.is), breaks))
    (rw so_far.shape_stays at c.in_err-entry.ensures.fault))

pub returns-in_err-entry-clause-stays : goal.returns-in_err-entry-clause-stays
returns-in_err-entry-clause-stays g c = stays_on g.S.Store g.met.S.Store.only_read_on _ _ _ c.loop-leaf.invariant.stays c.in_err-entry.ensures.stays

pub returns-in_err-entry-clause-fetches : goal.returns-in_err-entry-clause-fetches
returns-in_err-entry-clause-fetches g c = omega (arith, c.loop-leaf.invariant.few, c.in_err-entry.ensures.fetches)

pub returns-in-Some-clause-there : goal.returns-in-Some-clause-there
returns-in-Some-clause-there g c =
    let so_far = c.loop-leaf.invariant.stays in
    rw (so_far.image_stays, so_far.shape_stays, c.in-Some.is) at c.in_ok-entry.ensures.there

pub returns-in-Some-clause-stays : goal.returns-in-Some-clause-stays
returns-in-Some-clause-stays g c = stays_on g.S.Store g.met.S.Store.only_read_on _ _ _ c.loop-leaf.invariant.stays c.in_ok-entry.ensures.stays

pub returns-in-Some-clause-fetches : goal.returns-in-Some-clause-fetches
returns-in-Some-clause-fetches g c = omega (arith, c.loop-leaf.invariant.few, c.in_ok-entry.ensures.fetches, c.loop-leaf-test.true)

pub loop-leaf-preserved : goal.loop-leaf-preserved
loop-leaf-preserved g c =
    let store = c.args.store.now in
    let so_far = c.loop-leaf.invariant in
    let here = (rw (so_far.stays.image_stays, so_far.stays.shape_stays) at c.in_ok-entry.ensures.none) c.in_default.is in
    record {
      stays = stays_on g.S.Store g.met.S.Store.only_read_on _ _ _ so_far.stays c.in_ok-entry.ensures.stays;
      passed = IfSome_both (g.S.Store.image store) so_far.passed here
          (λ x before one. one_more_passed (LeadsElsewhere (dir_fork (g.S.Store.shape store) c.args.fork.now x) c.args.name.now) c.args.leaves.now c.loop-leaf.leaf-index c.leaf-item.result c.loop-leaf-test.true c.leaf-item.is one before);
      few = omega (arith, so_far.few, c.in_ok-entry.ensures.fetches);
    }

pub returns-clause-none : goal.returns-clause-none
returns-clause-none g c = λ _. IfSome_then (g.S.Store.image c.args.store.now) c.loop-leaf.invariant.passed (λ x all k d below. all k d (omega (arith, below, c.loop-leaf-test.false)))

pub returns-clause-stays : goal.returns-clause-stays
returns-clause-stays g c = c.loop-leaf.invariant.stays

pub returns-clause-fetches : goal.returns-clause-fetches
returns-clause-fetches g c = omega (arith, c.loop-leaf.invariant.few)
