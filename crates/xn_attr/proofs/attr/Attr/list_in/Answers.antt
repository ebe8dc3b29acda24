use Rattle.std.proofs.Common.{◌⊎◌, inr}
use Rattle.std.proofs.lemmas.Result.{err_from_is_err_and, IfErr-weaker, IfOk-weaker}
use Rattle.xn_bytes.specs.Inode.{inode_of}
use Rattle.xn_bytes.specs.Blocks.{block_of}
use Rattle.xn_bytes.specs.Trees.{BreaksAt}
use Rattle.xn_bytes.specs.AttributeForks.{BreaksShortFork, BreaksTreeFork}
use Rattle.xn_inode.proofs.Frames.{stays_at_first}
use Rattle.xn_attr.proofs.OverImages.{IfOk_all, cost_alone, cost_tree, few_blocks, most_tree, no_tree_absent, no_tree_empty, no_tree_short, over_lists, over_short, over_tree, own_shown, sound_of, tree_by}
use Rattle.xn_attr.proofs.attr.Attr.list_in.Goals as goal

pub returns-in_err-form_of-clause-fault : goal.returns-in_err-form_of-clause-fault
returns-in_err-form_of-clause-fault g c =
    let shape = g.S.Store.shape c.args.store.now in
    let fails = rw c.geometry.ensures at c.in_err-form_of.ensures.fault in
    let p = err_from_is_err_and c.from_residual.result c.from_residual.ensures.1 in
    rw (p.1, p.2) (over_lists g.S.Store
    (λ x rule block. BreaksShortFork (inode_of shape x c.args.ino) rule block
    ⊎ BreaksTreeFork shape c.args.ino (inode_of shape x c.args.ino) (block_of shape x) rule block)
    c.args.ino c.args.inode.now c.args.store.now c.args.store.now c.in_err-form_of.field-0.0 c.requires.bytes
    c.requires.rule_ten c.requires.rule_eleven fails)

pub returns-in-Absent-clause-inode : goal.returns-in-Absent-clause-inode
returns-in-Absent-clause-inode g c =
    let lists = rw c.geometry.ensures at c.in_ok-form_of.ensures.lists in
    own_shown _ _ _ _ c.requires.bytes c.requires.rule_ten c.requires.rule_eleven lists

pub returns-in-Absent-clause-reads : goal.returns-in-Absent-clause-reads
returns-in-Absent-clause-reads g c =
    let store = c.args.store.now in
    let form = rw c.in-Absent.is at c.in_ok-form_of.ensures.form in
    cost_alone (g.S.Store.shape store) c.args.ino _ c.args.inode.now (g.S.Store.fetches store) c.requires.bytes
    (no_tree_absent c.args.inode.now form)

pub returns-in-Empty-clause-inode : goal.returns-in-Empty-clause-inode
returns-in-Empty-clause-inode g c =
    let lists = rw c.geometry.ensures at c.in_ok-form_of.ensures.lists in
    own_shown _ _ _ _ c.requires.bytes c.requires.rule_ten c.requires.rule_eleven lists

pub returns-in-Empty-clause-reads : goal.returns-in-Empty-clause-reads
returns-in-Empty-clause-reads g c =
    let store = c.args.store.now in
    let form = rw c.in-Empty.is at c.in_ok-form_of.ensures.form in
    cost_alone (g.S.Store.shape store) c.args.ino _ c.args.inode.now (g.S.Store.fetches store) c.requires.bytes
    (no_tree_empty c.args.inode.now form)

pub returns-in-Short-clause-inode : goal.returns-in-Short-clause-inode
returns-in-Short-clause-inode g c =
    let lists = rw c.geometry.ensures at c.in_ok-form_of.ensures.lists in
    IfOk_all c.list.result _ (own_shown _ _ _ _ c.requires.bytes c.requires.rule_ten c.requires.rule_eleven lists)

pub returns-in-Short-clause-fault : goal.returns-in-Short-clause-fault
returns-in-Short-clause-fault g c =
    let shape = g.S.Store.shape c.args.store.now in
    let form = rw c.in-Short.is at c.in_ok-form_of.ensures.form in
    let lists = rw c.geometry.ensures at c.in_ok-form_of.ensures.lists in
    let sound = sound_of _ _ _ _ c.requires.rule_ten c.requires.rule_eleven lists c.requires.core in
    IfErr-weaker c.list.result _ _
    (λ fault is. over_short g.S.Store (λ x. BreaksTreeFork shape c.args.ino (inode_of shape x c.args.ino) (block_of shape x))
    c.args.ino c.args.inode.now c.args.core.now c.args.store.now c.args.store.now fault c.requires.bytes sound form is)
    c.list.ensures.fault

pub returns-in-Short-clause-reads : goal.returns-in-Short-clause-reads
returns-in-Short-clause-reads g c =
    let store = c.args.store.now in
    let form = rw c.in-Short.is at c.in_ok-form_of.ensures.form in
    IfOk_all c.list.result _
    (cost_alone (g.S.Store.shape store) c.args.ino _ c.args.inode.now (g.S.Store.fetches store) c.requires.bytes
    (no_tree_short c.args.inode.now form))

pub returns-in_ok-fork-in-Tree-clause-inode : goal.returns-in_ok-fork-in-Tree-clause-inode
returns-in_ok-fork-in-Tree-clause-inode g c =
    let lists = rw c.geometry.ensures at c.in_ok-form_of.ensures.lists in
    IfOk_all c.walk.result _ (own_shown _ _ _ _ c.requires.bytes c.requires.rule_ten c.requires.rule_eleven lists)

pub returns-in_ok-fork-in-Tree-clause-fault : goal.returns-in_ok-fork-in-Tree-clause-fault
returns-in_ok-fork-in-Tree-clause-fault g c =
    let shape = g.S.Store.shape c.args.store.now in
    let form = rw c.in-Tree.is at c.in_ok-form_of.ensures.form in
    let lists = rw c.geometry.ensures at c.in_ok-form_of.ensures.lists in
    let sound = sound_of _ _ _ _ c.requires.rule_ten c.requires.rule_eleven lists c.requires.core in
    let stays = stays_at_first g.S.Store c.args.store.now c.requires.whole (g.met.S.Store.only_read_at_first c.args.store.now) in
    IfErr-weaker c.walk.result _ _
    (λ fault. over_tree g.S.Store (λ f blocks. BreaksAt (tree_by f blocks))
    (λ x rule block. BreaksShortFork (inode_of shape x c.args.ino) rule block
    ⊎ BreaksTreeFork shape c.args.ino (inode_of shape x c.args.ino) (block_of shape x) rule block)
    c.args.ino c.args.inode.now c.args.core.now c.in_ok-fork-in-Tree.fork c.args.store.now c.args.store.now c.walk.new.store fault
    (λ x rule block is tree breaks. inr (is, tree, breaks)) stays c.requires.bytes sound form c.in_ok-fork-in-Tree.ensures.fork)
    c.walk.ensures.fault

pub returns-in_ok-fork-in-Tree-clause-reads : goal.returns-in_ok-fork-in-Tree-clause-reads
returns-in_ok-fork-in-Tree-clause-reads g c =
    let store = c.args.store.now in
    let form = rw c.in-Tree.is at c.in_ok-form_of.ensures.form in
    IfOk-weaker c.walk.result _ _
    (λ _. cost_tree (g.S.Store.shape store) c.args.ino _ c.args.inode.now c.in_ok-fork-in-Tree.fork
    (g.S.Store.fetches store) (g.S.Store.fetches c.walk.new.store) c.requires.bytes form c.in_ok-fork-in-Tree.ensures.fork)
    c.walk.ensures.fetches

pub returns-in_ok-fork-in-Tree-clause-most : goal.returns-in_ok-fork-in-Tree-clause-most
returns-in_ok-fork-in-Tree-clause-most g c =
    let store = c.args.store.now in
    let form = rw c.in-Tree.is at c.in_ok-form_of.ensures.form in
    most_tree (g.S.Store.shape store) c.args.ino _ c.args.inode.now c.in_ok-fork-in-Tree.fork
    (g.S.Store.fetches store) (g.S.Store.fetches c.walk.new.store) c.requires.bytes form c.in_ok-fork-in-Tree.ensures.fork (few_blocks c.in_ok-fork-in-Tree.fork _ _ c.walk.ensures.once)
