use Rattle.std.proofs.lemmas.Option.{IfSome_then}
use Rattle.xn_dir.specs.Hashed.{dir_fork}
use Rattle.xn_dir.proofs.IndexOver.{breaks_19, leaves_of_leaf, leaf_breaks_20, leaf_index, no_true}
use Rattle.xn_dir.proofs.BlockReads.{leaf_reads}
use Rattle.xn_dir.proofs.hashed_list.check_leaf_form.Goals as goal

pub returns-then-not-are_same-clause-fault : goal.returns-then-not-are_same-clause-fault
returns-then-not-are_same-clause-fault g c =
    let store = c.args.store.now in
    let S = g.S.Store in
    let T = dir_fork (S.shape store) c.args.fork.now in
    rw c.of_rule.ensures (IfSome_then (S.image store) c.in_ok-leaf.ensures.holds
    (λ x read first others. breaks_19 (T x) first others c.args.leaves.now c.in_ok-leaf.leaf.live.items c.args.bests.now (leaves_of_leaf (S.shape store) c.args.fork.now x c.in_ok-leaf.leaf c.requires.leaf_form read)
    (λ same. no_true c.are_same.result c.if-not-are_same.true (c.are_same.ensures.1 same))))

pub returns-then-not-are_right-clause-fault : goal.returns-then-not-are_right-clause-fault
returns-then-not-are_right-clause-fault g c =
    let store = c.args.store.now in
    let S = g.S.Store in
    let last = rw c.unwrap_or-last.ensures at c.are_leaf_bests-are_right.ensures in
    rw c.of_rule-then-not-are_right.ensures (IfSome_then (S.image store) c.in_ok-leaf.ensures.holds
    (λ x read first others. leaf_breaks_20 (S.shape store) c.args.fork.now x c.in_ok-leaf.leaf first others c.args.leaves.now c.args.bests.now c.last_mapped.result c.are_leaf_bests-are_right.result c.requires.leaf_form read c.last_mapped.ensures
    (rw c.deref.ensures.value at last) (c.are_same.ensures.0 c.if-not-are_same.false) (no_true c.are_leaf_bests-are_right.result c.if-not-are_right.true)))

pub returns-clause-right : goal.returns-clause-right
returns-clause-right g c =
    let store = c.args.store.now in
    let S = g.S.Store in
    let last = rw c.unwrap_or-last.ensures at c.are_leaf_bests-are_right.ensures in
    IfSome_then (S.image store) c.in_ok-leaf.ensures.holds
    (λ x read first others. leaf_index (S.shape store) c.args.fork.now x c.in_ok-leaf.leaf first others c.args.leaves.now c.args.bests.now c.last_mapped.result c.are_leaf_bests-are_right.result c.requires.leaf_form read c.last_mapped.ensures
    (rw c.deref.ensures.value at last) (c.are_same.ensures.0 c.if-not-are_same.false) c.if-not-are_right.false)

pub returns-in_err-leaf-clause-fetches : goal.returns-in_err-leaf-clause-fetches
returns-in_err-leaf-clause-fetches g c = leaf_reads c.args.fork.now.extents (g.S.Store.fetches c.args.store.now) (g.S.Store.fetches c.read_single_leaf.new.store) c.requires.leaf_form.leaf c.in_err-leaf.ensures.fetches

pub returns-then-not-are_same-clause-fetches : goal.returns-then-not-are_same-clause-fetches
returns-then-not-are_same-clause-fetches g c = leaf_reads c.args.fork.now.extents (g.S.Store.fetches c.args.store.now) (g.S.Store.fetches c.read_single_leaf.new.store) c.requires.leaf_form.leaf c.in_ok-leaf.ensures.fetches

pub returns-then-not-are_right-clause-fetches : goal.returns-then-not-are_right-clause-fetches
returns-then-not-are_right-clause-fetches g c = leaf_reads c.args.fork.now.extents (g.S.Store.fetches c.args.store.now) (g.S.Store.fetches c.read_single_leaf.new.store) c.requires.leaf_form.leaf c.in_ok-leaf.ensures.fetches

pub returns-clause-fetches : goal.returns-clause-fetches
returns-clause-fetches g c = leaf_reads c.args.fork.now.extents (g.S.Store.fetches c.args.store.now) (g.S.Store.fetches c.read_single_leaf.new.store) c.requires.leaf_form.leaf c.in_ok-leaf.ensures.fetches
