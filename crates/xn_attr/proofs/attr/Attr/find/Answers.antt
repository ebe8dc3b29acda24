use Rattle.std.proofs.Common.{◌⊎◌, ◌≡◌, inr}
use Rattle.std.proofs.lemmas.Result.{err_from_is_err_and, IfErr-weaker, IfOk-weaker}
use Rattle.xn_bytes.specs.Inode.{inode_of}
use Rattle.xn_bytes.specs.Blocks.{block_of}
use Rattle.xn_bytes.specs.Trees.{FailsFor}
use Rattle.xn_bytes.specs.AttributeForks.{BreaksShortFork}
use Rattle.xn_bytes.specs.AttributeForks.{IsTreeFork, attr_tree}
use Rattle.xn_bytes.specs.Attributes.{attribute_hash}
use Rattle.xn_attrleaf.specs.Entries.{with_value_here}
use Rattle.xn_attr.proofs.OverImages.{find_inode, find_tree, found_short, found_tree, over_short, over_tree, tree_by}
use Rattle.xn_attr.proofs.attr.Attr.find.Goals as goal

pub returns-in-Absent-clause-most : goal.returns-in-Absent-clause-most
returns-in-Absent-clause-most g c = find_inode (g.S.Store.shape c.args.store.now) c.args.ino (g.S.Store.image c.args.store.now) (g.S.Store.fetches c.args.store.now) (g.S.Store.fetches c.read_form.new.store) c.in_ok-core.ensures.fetches

pub returns-in-Empty-clause-most : goal.returns-in-Empty-clause-most
returns-in-Empty-clause-most g c = find_inode (g.S.Store.shape c.args.store.now) c.args.ino (g.S.Store.image c.args.store.now) (g.S.Store.fetches c.args.store.now) (g.S.Store.fetches c.read_form.new.store) c.in_ok-core.ensures.fetches

pub returns-in-Short-clause-most : goal.returns-in-Short-clause-most
returns-in-Short-clause-most g c = find_inode (g.S.Store.shape c.args.store.now) c.args.ino (g.S.Store.image c.args.store.now) (g.S.Store.fetches c.args.store.now) (g.S.Store.fetches c.read_form.new.store) c.in_ok-core.ensures.fetches

pub returns-in-Short-clause-found : goal.returns-in-Short-clause-found
returns-in-Short-clause-found g c =
    let form = rw c.in-Short.is at c.in_ok-core.ensures.form in
    IfOk-weaker c.has.result _ _
    (λ found finds. found_short (g.S.Store.shape c.args.store.now) c.args.ino (g.S.Store.image c.args.store.now) c.read_form.new.inode (with_value_here c.args.flags c.args.name.now c.args.value.now) found c.in_ok-core.ensures.bytes form finds)
    c.has.ensures.found

pub returns-in-Short-clause-fault : goal.returns-in-Short-clause-fault
returns-in-Short-clause-fault g c =
    let form = rw c.in-Short.is at c.in_ok-core.ensures.form in
    IfErr-weaker c.has.result _ _
    (λ fault is. over_short g.S.Store (λ x rule block. ((rule ≡ 25) × IsTreeFork (inode_of (g.S.Store.shape c.args.store.now) x c.args.ino) × FailsFor (attr_tree (g.S.Store.shape c.args.store.now) c.args.ino (inode_of (g.S.Store.shape c.args.store.now) x c.args.ino) (block_of (g.S.Store.shape c.args.store.now) x)) (attribute_hash (with_value_here c.args.flags c.args.name.now c.args.value.now)) block)) c.args.ino c.read_form.new.inode c.in_ok-core.core c.args.store.now c.read_form.new.store fault c.in_ok-core.ensures.bytes c.in_ok-core.ensures.sound form is)
    c.has.ensures.fault

pub returns-in_err-found-in-Tree-clause-fault : goal.returns-in_err-found-in-Tree-clause-fault
returns-in_err-found-in-Tree-clause-fault g c =
    let form = rw c.in-Tree.is at c.in_ok-core.ensures.form in
    let stays = c.in_ok-core.ensures.stays in
    let p = err_from_is_err_and c.from_residual-in_err-found-in-Tree.result c.from_residual-in_err-found-in-Tree.ensures.1 in
    rw (p.1, p.2) (over_tree g.S.Store (λ f blocks. FailsFor (tree_by f blocks) (attribute_hash (with_value_here c.args.flags c.args.name.now c.args.value.now))) (λ x rule block. BreaksShortFork (inode_of (g.S.Store.shape c.args.store.now) x c.args.ino) rule block ⊎ ((rule ≡ 25) × IsTreeFork (inode_of (g.S.Store.shape c.args.store.now) x c.args.ino) × FailsFor (attr_tree (g.S.Store.shape c.args.store.now) c.args.ino (inode_of (g.S.Store.shape c.args.store.now) x c.args.ino) (block_of (g.S.Store.shape c.args.store.now) x)) (attribute_hash (with_value_here c.args.flags c.args.name.now c.args.value.now)) block))
    c.args.ino c.read_form.new.inode c.in_ok-core.core c.in_ok-fork-in-Tree.fork c.args.store.now c.read_form.new.store c.find_all.new.store c.in_err-found-in-Tree.field-0.0 (λ x rule block is tree fails. inr (is, tree, fails)) stays c.in_ok-core.ensures.bytes c.in_ok-core.ensures.sound form c.in_ok-fork-in-Tree.ensures.fork
    (rw (stays.shape_stays, c.hash_with_value-hash.ensures) at c.in_err-found-in-Tree.ensures.fault))

pub returns-in_ok-found-in-Tree-clause-found : goal.returns-in_ok-found-in-Tree-clause-found
returns-in_ok-found-in-Tree-clause-found g c =
    let form = rw c.in-Tree.is at c.in_ok-core.ensures.form in
    let stays = c.in_ok-core.ensures.stays in
    found_tree (g.S.Store.shape c.args.store.now) c.args.ino (g.S.Store.image c.args.store.now) c.read_form.new.inode c.in_ok-fork-in-Tree.fork (with_value_here c.args.flags c.args.name.now c.args.value.now) c.hash_with_value-hash.result c.in_ok-found-in-Tree.found.items c.is_among.result c.in_ok-core.ensures.bytes form c.in_ok-fork-in-Tree.ensures.fork c.hash_with_value-hash.ensures
    (rw c.deref.ensures.value at c.is_among.ensures) (rw (stays.image_stays, stays.shape_stays) at c.in_ok-found-in-Tree.ensures.found)

pub returns-in_ok-found-in-Tree-clause-most : goal.returns-in_ok-found-in-Tree-clause-most
returns-in_ok-found-in-Tree-clause-most g c =
    let form = rw c.in-Tree.is at c.in_ok-core.ensures.form in
    find_tree (g.S.Store.shape c.args.store.now) c.args.ino (g.S.Store.image c.args.store.now) c.read_form.new.inode c.in_ok-fork-in-Tree.fork (g.S.Store.fetches c.args.store.now) (g.S.Store.fetches c.read_form.new.store) (g.S.Store.fetches c.find_all.new.store) c.in_ok-core.ensures.bytes form c.in_ok-fork-in-Tree.ensures.fork c.in_ok-core.ensures.fetches c.in_ok-found-in-Tree.ensures.most
