use Rattle.std.proofs.Common.{◌∙◌, map, arith, inl, inr}
use Rattle.std.proofs.lemmas.Result.{err_from_is_err_and, IfErr-weaker, IfOk-weaker}
use Rattle.xn_dir.specs.Listings.{entry_of}
use Rattle.xn_bytes.specs.DirectoryRules.{BreaksBlocks, BreaksHashed}
use Rattle.xn_dir.proofs.OverImages.{over_short, over_first, holds_short, holds_block, list_inode, list_block}
use Rattle.xn_dir.proofs.HashedOver.{over_size, over_blocks, holds_hashed, list_hashed}
use Rattle.xn_dir.proofs.dir.Dir.list.Goals as goal

pub returns-in-Short-clause-holds : goal.returns-in-Short-clause-holds
returns-in-Short-clause-holds g c =
    IfOk-weaker c.list.result _ _
    (λ listed holds. holds_short (g.S.Store.shape c.args.store.now) c.args.dir (g.S.Store.image c.args.store.now) c.read_form.new.inode (map entry_of listed.items) c.in_ok-core.ensures.bytes holds)
    c.list.ensures.holds

pub returns-in-Short-clause-fault : goal.returns-in-Short-clause-fault
returns-in-Short-clause-fault g c =
    let form = rw c.in-Short.is at c.in_ok-core.ensures.form in
    IfErr-weaker c.list.result _ _
    (λ fault is. over_short BreaksBlocks (g.S.Store.shape c.args.store.now) c.args.dir (g.S.Store.image c.args.store.now) c.read_form.new.inode c.in_ok-core.core _ _ fault c.in_ok-core.ensures.bytes c.in_ok-core.ensures.sound form is)
    c.list.ensures.fault

pub returns-in_ok-read_block-in-Block-clause-holds : goal.returns-in_ok-read_block-in-Block-clause-holds
returns-in_ok-read_block-in-Block-clause-holds g c =
    let stays = c.in_ok-core.ensures.stays in
    let read = c.in_ok-read_block-in-Block.ensures in
    let shape = c.geometry.ensures ∙ read.stays.shape_stays ∙ stays.shape_stays in
    let form = rw c.in-Block.is at c.in_ok-core.ensures.form in
    let shown = rw (stays.image_stays, stays.shape_stays) at read.bytes in
    IfOk-weaker c.list-in-Block.result _ _
    (λ listed holds. holds_block (g.S.Store.shape c.args.store.now) c.args.dir (g.S.Store.image c.args.store.now) c.read_form.new.inode c.read_block.new.bytes c.in-Block.block (map entry_of listed.items) c.in_ok-core.ensures.bytes shown form read.size holds)
    (rw shape at c.list-in-Block.ensures.holds)

pub returns-in_ok-read_block-in-Block-clause-fault : goal.returns-in_ok-read_block-in-Block-clause-fault
returns-in_ok-read_block-in-Block-clause-fault g c =
    let stays = c.in_ok-core.ensures.stays in
    let read = c.in_ok-read_block-in-Block.ensures in
    let shape = c.geometry.ensures ∙ read.stays.shape_stays ∙ stays.shape_stays in
    let form = rw c.in-Block.is at c.in_ok-core.ensures.form in
    let shown = rw (stays.image_stays, stays.shape_stays) at read.bytes in
    IfErr-weaker c.list-in-Block.result _ _
    (λ fault is. over_first BreaksBlocks (g.S.Store.shape c.args.store.now) c.args.dir (g.S.Store.image c.args.store.now) c.read_form.new.inode c.read_block.new.bytes c.in_ok-core.core c.in-Block.block _ _ fault c.in_ok-core.ensures.bytes shown c.in_ok-core.ensures.sound form read.size is)
    (rw shape at c.list-in-Block.ensures.fault)

pub returns-in_err-fork-in-Hashed-clause-fault : goal.returns-in_err-fork-in-Hashed-clause-fault
returns-in_err-fork-in-Hashed-clause-fault g c =
    let form = rw c.in-Hashed.is at c.in_ok-core.ensures.form in
    let shape = c.geometry-in-Hashed.ensures ∙ c.in_ok-core.ensures.stays.shape_stays in
    let p = err_from_is_err_and c.from_residual-in_err-fork-in-Hashed.result c.from_residual-in_err-fork-in-Hashed.ensures.1 in
    rw (p.1, p.2) (over_size BreaksBlocks (g.S.Store.shape c.args.store.now) c.args.dir (g.S.Store.image c.args.store.now) c.read_form.new.inode c.in_ok-core.core _ _ c.in_err-fork-in-Hashed.field-0.0 (λ one blocks rule block in_blocks wrong. (in_blocks, inl wrong))
    c.in_ok-core.ensures.bytes c.in_ok-core.ensures.sound form c.in_err-fork-in-Hashed.ensures.fault)

pub returns-in_ok-fork-in-Hashed-clause-holds : goal.returns-in_ok-fork-in-Hashed-clause-holds
returns-in_ok-fork-in-Hashed-clause-holds g c =
    let form = rw c.in-Hashed.is at c.in_ok-core.ensures.form in
    let stays = c.in_ok-core.ensures.stays in
    let fork = c.in_ok-fork-in-Hashed.ensures in
    IfOk-weaker c.list-in-Hashed.result _ _
    (λ listed has. holds_hashed (g.S.Store.shape c.args.store.now) c.args.dir (g.S.Store.image c.args.store.now) c.read_form.new.inode c.in_ok-fork-in-Hashed.fork (map entry_of listed.items) c.in_ok-core.ensures.bytes form fork.size fork.fork has)
    (rw (stays.image_stays, stays.shape_stays) at c.list-in-Hashed.ensures.holds)

pub returns-in_ok-fork-in-Hashed-clause-fault : goal.returns-in_ok-fork-in-Hashed-clause-fault
returns-in_ok-fork-in-Hashed-clause-fault g c =
    let form = rw c.in-Hashed.is at c.in_ok-core.ensures.form in
    let stays = c.in_ok-core.ensures.stays in
    let fork = c.in_ok-fork-in-Hashed.ensures in
    IfErr-weaker c.list-in-Hashed.result _ _
    (λ fault fails. over_blocks g.S.Store BreaksBlocks BreaksHashed c.args.dir c.read_form.new.inode c.in_ok-core.core c.in_ok-fork-in-Hashed.fork c.args.store.now c.read_form.new.store c.list-in-Hashed.new.store fault
    (λ one inode blocks rule block in_blocks size breaks. (in_blocks, inr (size, breaks))) stays c.in_ok-core.ensures.bytes c.in_ok-core.ensures.sound form fork.size fork.fork fails)
    (rw stays.shape_stays at c.list-in-Hashed.ensures.fault)

pub returns-in_err-core-clause-fetches : goal.returns-in_err-core-clause-fetches
returns-in_err-core-clause-fetches g c = list_inode (g.S.Store.shape c.args.store.now) c.args.dir (g.S.Store.image c.args.store.now) (g.S.Store.fetches c.args.store.now) (g.S.Store.fetches c.read_form.new.store) c.in_err-core.ensures.fetches

pub returns-in-Short-clause-fetches : goal.returns-in-Short-clause-fetches
returns-in-Short-clause-fetches g c = list_inode (g.S.Store.shape c.args.store.now) c.args.dir (g.S.Store.image c.args.store.now) (g.S.Store.fetches c.args.store.now) (g.S.Store.fetches c.read_form.new.store) c.in_ok-core.ensures.fetches

pub returns-in_err-read_block-in-Block-clause-fetches : goal.returns-in_err-read_block-in-Block-clause-fetches
returns-in_err-read_block-in-Block-clause-fetches g c =
    let form = rw c.in-Block.is at c.in_ok-core.ensures.form in
    list_block (g.S.Store.shape c.args.store.now) c.args.dir (g.S.Store.image c.args.store.now) c.read_form.new.inode c.in-Block.block (g.S.Store.fetches c.args.store.now) (g.S.Store.fetches c.read_block.new.store)
    c.in_ok-core.ensures.bytes form (omega (arith, c.in_ok-core.ensures.fetches, c.in_err-read_block-in-Block.ensures.fetches))

pub returns-in_ok-read_block-in-Block-clause-fetches : goal.returns-in_ok-read_block-in-Block-clause-fetches
returns-in_ok-read_block-in-Block-clause-fetches g c =
    let form = rw c.in-Block.is at c.in_ok-core.ensures.form in
    list_block (g.S.Store.shape c.args.store.now) c.args.dir (g.S.Store.image c.args.store.now) c.read_form.new.inode c.in-Block.block (g.S.Store.fetches c.args.store.now) (g.S.Store.fetches c.read_block.new.store)
    c.in_ok-core.ensures.bytes form (omega (arith, c.in_ok-core.ensures.fetches, c.in_ok-read_block-in-Block.ensures.fetches))

pub returns-in_err-fork-in-Hashed-clause-fetches : goal.returns-in_err-fork-in-Hashed-clause-fetches
returns-in_err-fork-in-Hashed-clause-fetches g c = list_inode (g.S.Store.shape c.args.store.now) c.args.dir (g.S.Store.image c.args.store.now) (g.S.Store.fetches c.args.store.now) (g.S.Store.fetches c.read_form.new.store) c.in_ok-core.ensures.fetches

pub returns-in_ok-fork-in-Hashed-clause-fetches : goal.returns-in_ok-fork-in-Hashed-clause-fetches
returns-in_ok-fork-in-Hashed-clause-fetches g c =
    let form = rw c.in-Hashed.is at c.in_ok-core.ensures.form in
    list_hashed (g.S.Store.shape c.args.store.now) c.args.dir (g.S.Store.image c.args.store.now) c.read_form.new.inode c.in_ok-fork-in-Hashed.fork (g.S.Store.fetches c.args.store.now) (g.S.Store.fetches c.read_form.new.store) (g.S.Store.fetches c.list-in-Hashed.new.store)
    c.in_ok-core.ensures.bytes form c.in_ok-fork-in-Hashed.ensures.fork c.in_ok-core.ensures.fetches c.list-in-Hashed.ensures.fetches
