use Rattle.std.proofs.lemmas.Option.{IfSome_then}
use Rattle.xn_dir.specs.Hashed.{dir_fork}
use Rattle.xn_dir.proofs.Following.{IfSome_both}
use Rattle.xn_dir.proofs.IndexOver.{breaks_19, leaves_of_tree, node_breaks_20, node_index, no_true}
use Rattle.xn_dir.proofs.BlockReads.{node_reads, tree_reads}
use Rattle.xn_dir.proofs.hashed_list.check_node_form.Goals as goal

pub returns-then-not-are_same-clause-fault : goal.returns-then-not-are_same-clause-fault
returns-then-not-are_same-clause-fault g c =
    let store = c.args.store.now in
    let S = g.S.Store in
    let T = dir_fork (S.shape store) c.args.fork.now in
    rw c.of_rule.ensures (IfSome_then (S.image store) c.in_ok-live.ensures.holds
    (λ x tree first others. breaks_19 (T x) first others c.args.leaves.now c.in_ok-live.live.items c.args.bests.now (leaves_of_tree (S.shape store) c.args.fork.now x c.in_ok-live.live.items c.requires.fork c.requires.node_form tree)
    (λ same. no_true c.are_same.result c.if-not-are_same.true (c.are_same.ensures.1 same))))

pub returns-then-not-branch-clause-fault : goal.returns-then-not-branch-clause-fault
returns-then-not-branch-clause-fault g c =
    let store = c.args.store.now in
    let S = g.S.Store in
    let T = dir_fork (S.shape store) c.args.fork.now in
    let stays = c.in_ok-live.ensures.stays in
    rw c.of_rule-then-not-branch.ensures (IfSome_both (S.image store) c.in_ok-live.ensures.holds (rw (stays.image_stays, stays.shape_stays) at c.in_ok-has_free_indexes.ensures.right)
    (λ x tree tells first others. node_breaks_20 (T x) first others c.args.leaves.now c.in_ok-live.live.items c.args.bests.now c.in_ok-has_free_indexes.field-0 c.requires.node_form
    (leaves_of_tree (S.shape store) c.args.fork.now x c.in_ok-live.live.items c.requires.fork c.requires.node_form tree)
    (c.are_same.ensures.0 c.if-not-are_same.false) tells (no_true c.in_ok-has_free_indexes.field-0 c.if-not-branch.true)))

pub returns-clause-right : goal.returns-clause-right
returns-clause-right g c =
    let store = c.args.store.now in
    let S = g.S.Store in
    let T = dir_fork (S.shape store) c.args.fork.now in
    let stays = c.in_ok-live.ensures.stays in
    IfSome_both (S.image store) c.in_ok-live.ensures.holds (rw (stays.image_stays, stays.shape_stays) at c.in_ok-has_free_indexes.ensures.right)
    (λ x tree tells first others. node_index (T x) first others c.args.leaves.now c.in_ok-live.live.items c.args.bests.now c.in_ok-has_free_indexes.field-0 c.requires.node_form
    (leaves_of_tree (S.shape store) c.args.fork.now x c.in_ok-live.live.items c.requires.fork c.requires.node_form tree)
    (c.are_same.ensures.0 c.if-not-are_same.false) tells c.if-not-branch.false)

pub returns-in_err-live-clause-fetches : goal.returns-in_err-live-clause-fetches
returns-in_err-live-clause-fetches g c = tree_reads c.args.fork.now (g.S.Store.fetches c.args.store.now) (g.S.Store.fetches c.walk.new.store) c.requires.fork c.in_err-live.ensures.once

pub returns-then-not-are_same-clause-fetches : goal.returns-then-not-are_same-clause-fetches
returns-then-not-are_same-clause-fetches g c = tree_reads c.args.fork.now (g.S.Store.fetches c.args.store.now) (g.S.Store.fetches c.walk.new.store) c.requires.fork c.in_ok-live.ensures.once

pub returns-in_err-has_free_indexes-clause-fetches : goal.returns-in_err-has_free_indexes-clause-fetches
returns-in_err-has_free_indexes-clause-fetches g c = node_reads c.args.fork.now (g.S.Store.fetches c.args.store.now) (g.S.Store.fetches c.walk.new.store) (g.S.Store.fetches c.has_free_indexes.new.store) c.requires.fork c.in_ok-live.ensures.once c.in_err-has_free_indexes.ensures.fetches

pub returns-then-not-branch-clause-fetches : goal.returns-then-not-branch-clause-fetches
returns-then-not-branch-clause-fetches g c = node_reads c.args.fork.now (g.S.Store.fetches c.args.store.now) (g.S.Store.fetches c.walk.new.store) (g.S.Store.fetches c.has_free_indexes.new.store) c.requires.fork c.in_ok-live.ensures.once c.in_ok-has_free_indexes.ensures.fetches

pub returns-clause-fetches : goal.returns-clause-fetches
returns-clause-fetches g c = node_reads c.args.fork.now (g.S.Store.fetches c.args.store.now) (g.S.Store.fetches c.walk.new.store) (g.S.Store.fetches c.has_free_indexes.new.store) c.requires.fork c.in_ok-live.ensures.once c.in_ok-has_free_indexes.ensures.fetches
