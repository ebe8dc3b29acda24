use Rattle.std.proofs.lemmas.Option.{IfSome_then}
use Rattle.std.proofs.lemmas.Result.{IfErr-weaker, IfOk-weaker}
use Rattle.xn_bytes.specs.Costs.{mapped_count}
use Rattle.xn_bytes.proofs.TestLemmas.{holds, fails}
use Rattle.xn_dir.specs.Hashed.{dir_fork}
use Rattle.xn_dir.proofs.Following.{every, IfSome_both, IfErr_all}
use Rattle.xn_dir.proofs.LeafEntries.{cost_in_leaf, cost_in_tree, fault_in_tree, few_in_tree, few_of_hash, found_in_tree, read_in_leaf, read_in_tree}
use Rattle.xn_dir.proofs.leaves.with_hash.Goals as goal

pub returns-in_ok-those_with_hash-clause-fetches :
    goal.returns-in_ok-those_with_hash-clause-fetches
returns-in_ok-those_with_hash-clause-fetches g c =
    let store = c.args.store.now in
    let read = c.in_ok-leaf.ensures in
    IfSome_then (g.S.Store.image store) read.holds
    (λ x there. cost_in_leaf (g.S.Store.shape store) c.args.fork.now x c.args.hash (g.S.Store.fetches store) (g.S.Store.fetches c.read_single_leaf.new.store) c.in_ok-leaf.leaf c.in_ok-those_with_hash.field-0.items (holds c.if-is_leaf_form.ensures) there (rw c.deref.ensures.value at c.in_ok-those_with_hash.ensures) read.fetches)

pub returns-else-is_leaf_form-clause-found : goal.returns-else-is_leaf_form-clause-found
returns-else-is_leaf_form-clause-found g c =
    let store = c.args.store.now in
    IfOk-weaker c.find_all.result _ _
    (λ found all. IfSome_then (g.S.Store.image store) all (λ x those. found_in_tree (g.S.Store.shape store) c.args.fork.now x c.args.hash found.items c.requires.fork (fails c.if-is_leaf_form.ensures) those))
    c.find_all.ensures.found

pub returns-else-is_leaf_form-clause-fault : goal.returns-else-is_leaf_form-clause-fault
returns-else-is_leaf_form-clause-fault g c =
    IfErr-weaker c.find_all.result _ _
    (λ fault on_way. fault_in_tree g.S.Store c.args.fork.now c.args.hash c.args.store.now c.find_all.new.store fault c.requires.fork (fails c.if-is_leaf_form.ensures) on_way)
    c.find_all.ensures.fault

pub returns-else-is_leaf_form-clause-fetches : goal.returns-else-is_leaf_form-clause-fetches
returns-else-is_leaf_form-clause-fetches g c =
    let store = c.args.store.now in
    IfOk-weaker c.find_all.result _ _
    (λ found all. IfSome_both (g.S.Store.image store) all c.find_all.ensures.fetches
    (λ x those reads. cost_in_tree (g.S.Store.shape store) c.args.fork.now x c.args.hash (g.S.Store.fetches store) (g.S.Store.fetches c.find_all.new.store) found.items c.requires.fork (fails c.if-is_leaf_form.ensures) those reads))
    c.find_all.ensures.found

pub returns-in_err-leaf-clause-failed : goal.returns-in_err-leaf-clause-failed
returns-in_err-leaf-clause-failed g c =
    let store = c.args.store.now in
    IfErr_all c.from_residual.result _ (every (g.S.Store.image store) _
    (λ x. read_in_leaf (dir_fork (g.S.Store.shape store) c.args.fork.now x) c.args.hash (g.S.Store.fetches store) (g.S.Store.fetches c.read_single_leaf.new.store) (holds c.if-is_leaf_form.ensures) c.in_err-leaf.ensures.fetches))

pub returns-in_err-those_with_hash-clause-failed : goal.returns-in_err-those_with_hash-clause-failed
returns-in_err-those_with_hash-clause-failed g c =
    let store = c.args.store.now in
    IfErr_all c.from_residual-in_err-those_with_hash.result _ (every (g.S.Store.image store) _
    (λ x. read_in_leaf (dir_fork (g.S.Store.shape store) c.args.fork.now x) c.args.hash (g.S.Store.fetches store) (g.S.Store.fetches c.read_single_leaf.new.store) (holds c.if-is_leaf_form.ensures) c.in_ok-leaf.ensures.fetches))

pub returns-else-is_leaf_form-clause-failed : goal.returns-else-is_leaf_form-clause-failed
returns-else-is_leaf_form-clause-failed g c =
    let store = c.args.store.now in
    IfErr_all c.find_all.result _ (IfSome_then (g.S.Store.image store) c.find_all.ensures.fetches
    (λ x reads. read_in_tree (g.S.Store.shape store) c.args.fork.now x c.args.hash (g.S.Store.fetches store) (g.S.Store.fetches c.find_all.new.store) c.requires.fork (fails c.if-is_leaf_form.ensures) reads))

pub returns-in_ok-those_with_hash-clause-few : goal.returns-in_ok-those_with_hash-clause-few
returns-in_ok-those_with_hash-clause-few g c =
    few_of_hash c.args.hash c.in_ok-leaf.leaf.live.items c.in_ok-those_with_hash.field-0.items (mapped_count c.args.fork.now.extents) c.in_ok-leaf.ensures.few (rw c.deref.ensures.value at c.in_ok-those_with_hash.ensures)

pub returns-else-is_leaf_form-clause-few : goal.returns-else-is_leaf_form-clause-few
returns-else-is_leaf_form-clause-few g c = IfOk-weaker c.find_all.result _ _ (λ found room. few_in_tree found.items (mapped_count c.args.fork.now.extents) room) c.find_all.ensures.room
