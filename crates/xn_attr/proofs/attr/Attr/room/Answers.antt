use Rattle.std.proofs.Common.{◌⊎◌, ◌≡◌, inr}
use Rattle.std.proofs.lemmas.Result.{IfErr-weaker, IfOk-weaker}
use Rattle.xn_bytes.specs.Inode.{inode_of}
use Rattle.xn_bytes.specs.Blocks.{block_of}
use Rattle.xn_bytes.specs.Trees.{FailsFor}
use Rattle.xn_bytes.specs.Attributes.{attribute_hash}
use Rattle.xn_bytes.specs.AttributeForks.{BreaksShortFork, IsTreeFork, attr_tree}
use Rattle.xn_attrleaf.specs.Entries.{with_value_here}
use Rattle.xn_attr.proofs.OverImages.{over_short, over_tree, tree_by}
use Rattle.xn_attr.proofs.Rooms.{room_absent, room_empty, room_short, room_tree}
use Rattle.xn_attr.proofs.attr.Attr.room.Goals as goal

pub returns-in-Absent-clause-room : goal.returns-in-Absent-clause-room
returns-in-Absent-clause-room g c =
    let form = rw c.in-Absent.is at c.in_ok-core.ensures.form in
    room_absent (g.S.Store.shape c.args.store.now) c.args.ino (g.S.Store.image c.args.store.now) c.read_form.new.inode c.args.flags c.args.name.now c.args.value.now c.in_ok-core.ensures.bytes form

pub returns-in-Empty-clause-room : goal.returns-in-Empty-clause-room
returns-in-Empty-clause-room g c =
    let form = rw c.in-Empty.is at c.in_ok-core.ensures.form in
    room_empty (g.S.Store.shape c.args.store.now) c.args.ino (g.S.Store.image c.args.store.now) c.read_form.new.inode c.args.flags c.args.name.now c.args.value.now c.has_room_alone.result c.in_ok-core.ensures.bytes form c.has_room_alone.ensures

pub returns-in-Short-clause-room : goal.returns-in-Short-clause-room
returns-in-Short-clause-room g c =
    let form = rw c.in-Short.is at c.in_ok-core.ensures.form in
    IfOk-weaker c.has_room.result _ _
    (λ room fits. room_short (g.S.Store.shape c.args.store.now) c.args.ino (g.S.Store.image c.args.store.now) c.read_form.new.inode c.args.flags c.args.name.now c.args.value.now room c.in_ok-core.ensures.bytes form fits)
    c.has_room.ensures.room

pub returns-in-Short-clause-fault : goal.returns-in-Short-clause-fault
returns-in-Short-clause-fault g c =
    let form = rw c.in-Short.is at c.in_ok-core.ensures.form in
    IfErr-weaker c.has_room.result _ _
    (λ fault is. over_short g.S.Store (λ x rule block. ((rule ≡ 25) × IsTreeFork (inode_of (g.S.Store.shape c.args.store.now) x c.args.ino) × FailsFor (attr_tree (g.S.Store.shape c.args.store.now) c.args.ino (inode_of (g.S.Store.shape c.args.store.now) x c.args.ino) (block_of (g.S.Store.shape c.args.store.now) x)) (attribute_hash (with_value_here c.args.flags c.args.name.now c.args.value.now)) block)) c.args.ino c.read_form.new.inode c.in_ok-core.core c.args.store.now c.read_form.new.store fault c.in_ok-core.ensures.bytes c.in_ok-core.ensures.sound form is)
    c.has_room.ensures.fault

pub returns-in_ok-fork-in-Tree-clause-room : goal.returns-in_ok-fork-in-Tree-clause-room
returns-in_ok-fork-in-Tree-clause-room g c =
    let form = rw c.in-Tree.is at c.in_ok-core.ensures.form in
    let stays = c.in_ok-core.ensures.stays in
    IfOk-weaker c.fits.result _ _
    (λ room fits. room_tree (g.S.Store.shape c.args.store.now) c.args.ino (g.S.Store.image c.args.store.now) c.read_form.new.inode c.in_ok-fork-in-Tree.fork c.args.flags c.args.name.now c.args.value.now c.hash_with_value-hash.result c.size_with_value-size.result room c.in_ok-core.ensures.bytes form c.in_ok-fork-in-Tree.ensures.fork c.hash_with_value-hash.ensures c.size_with_value-size.ensures fits)
    (rw (stays.image_stays, stays.shape_stays) at c.fits.ensures.fits)

pub returns-in_ok-fork-in-Tree-clause-fault : goal.returns-in_ok-fork-in-Tree-clause-fault
returns-in_ok-fork-in-Tree-clause-fault g c =
    let form = rw c.in-Tree.is at c.in_ok-core.ensures.form in
    let stays = c.in_ok-core.ensures.stays in
    IfErr-weaker c.fits.result _ _
    (λ fault fails. over_tree g.S.Store (λ f blocks. FailsFor (tree_by f blocks) (attribute_hash (with_value_here c.args.flags c.args.name.now c.args.value.now))) (λ x rule block. BreaksShortFork (inode_of (g.S.Store.shape c.args.store.now) x c.args.ino) rule block ⊎ ((rule ≡ 25) × IsTreeFork (inode_of (g.S.Store.shape c.args.store.now) x c.args.ino) × FailsFor (attr_tree (g.S.Store.shape c.args.store.now) c.args.ino (inode_of (g.S.Store.shape c.args.store.now) x c.args.ino) (block_of (g.S.Store.shape c.args.store.now) x)) (attribute_hash (with_value_here c.args.flags c.args.name.now c.args.value.now)) block))
    c.args.ino c.read_form.new.inode c.in_ok-core.core c.in_ok-fork-in-Tree.fork c.args.store.now c.read_form.new.store c.fits.new.store fault (λ x rule block is tree breaks. inr (is, tree, breaks)) stays c.in_ok-core.ensures.bytes c.in_ok-core.ensures.sound form c.in_ok-fork-in-Tree.ensures.fork fails)
    (rw (stays.shape_stays, c.hash_with_value-hash.ensures) at c.fits.ensures.fault)
