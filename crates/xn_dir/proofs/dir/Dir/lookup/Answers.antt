use Rattle.std.proofs.Common.{◌∙◌, arith, inl, inr}
use Rattle.xn_bytes.specs.Hashes.{name_hash_of}
use Rattle.std.proofs.lemmas.Result.{err_from_is_err_and, IfErr-weaker, IfOk-weaker}
use Rattle.xn_bytes.specs.DirectoryRules.{FailsBlocks, FailsHashed}
use Rattle.xn_dir.proofs.OverImages.{over_short, over_first, stands_short, stands_block, on_all_short, on_all_block}
use Rattle.xn_dir.proofs.HashedOver.{over_size, over_blocks, stands_hashed, finds_hashed}
use Rattle.xn_dir.proofs.Reaching.{of_block, of_hash, of_inode}
use Rattle.xn_dir.proofs.OneForm.{finds_over}
use Rattle.xn_dir.proofs.dir.Dir.lookup.Goals as goal

pub returns-in-Short-clause-fault : goal.returns-in-Short-clause-fault
returns-in-Short-clause-fault g c =
    let form = rw c.in-Short.is at c.in_ok-core.ensures.form in
    IfErr-weaker c.lookup.result _ _
    (λ fault is. over_short FailsBlocks (g.S.Store.shape c.args.store.now) c.args.dir (g.S.Store.image c.args.store.now) c.read_form.new.inode c.in_ok-core.core _ _ fault c.in_ok-core.ensures.bytes c.in_ok-core.ensures.sound form is)
    c.lookup.ensures.fault

pub returns-in_ok-read_block-in-Block-clause-fault : goal.returns-in_ok-read_block-in-Block-clause-fault
returns-in_ok-read_block-in-Block-clause-fault g c =
    let stays = c.in_ok-core.ensures.stays in
    let read = c.in_ok-read_block-in-Block.ensures in
    let shape = c.geometry.ensures ∙ read.stays.shape_stays ∙ stays.shape_stays in
    let form = rw c.in-Block.is at c.in_ok-core.ensures.form in
    let shown = rw (stays.image_stays, stays.shape_stays) at read.bytes in
    IfErr-weaker c.lookup-in-Block.result _ _
    (λ fault is. over_first FailsBlocks (g.S.Store.shape c.args.store.now) c.args.dir (g.S.Store.image c.args.store.now) c.read_form.new.inode c.read_block.new.bytes c.in_ok-core.core c.in-Block.block _ _ fault c.in_ok-core.ensures.bytes shown c.in_ok-core.ensures.sound form read.size is)
    (rw shape at c.lookup-in-Block.ensures.fault)

pub returns-in-Short-clause-stands : goal.returns-in-Short-clause-stands
returns-in-Short-clause-stands g c =
    let form = rw c.in-Short.is at c.in_ok-core.ensures.form in
    IfOk-weaker c.lookup.result _ _
    (λ found stands. on_all_short (g.S.Store.shape c.args.store.now) c.args.dir (g.S.Store.image c.args.store.now) c.read_form.new.inode c.args.name.now found c.in_ok-core.ensures.bytes form stands)
    c.lookup.ensures.stands

pub returns-in-Short-clause-found : goal.returns-in-Short-clause-found
returns-in-Short-clause-found g c =
    let form = rw c.in-Short.is at c.in_ok-core.ensures.form in
    IfOk-weaker c.lookup.result _ _
    (λ found stands. finds_over (g.S.Store.shape c.args.store.now) c.args.dir (g.S.Store.image c.args.store.now) c.args.name.now found
    (stands_short (g.S.Store.shape c.args.store.now) c.args.dir (g.S.Store.image c.args.store.now) c.read_form.new.inode c.args.name.now found c.in_ok-core.ensures.bytes form stands))
    c.lookup.ensures.stands

pub returns-in_ok-read_block-in-Block-clause-stands : goal.returns-in_ok-read_block-in-Block-clause-stands
returns-in_ok-read_block-in-Block-clause-stands g c =
    let stays = c.in_ok-core.ensures.stays in
    let read = c.in_ok-read_block-in-Block.ensures in
    let shape = c.geometry.ensures ∙ read.stays.shape_stays ∙ stays.shape_stays in
    let form = rw c.in-Block.is at c.in_ok-core.ensures.form in
    let shown = rw (stays.image_stays, stays.shape_stays) at read.bytes in
    IfOk-weaker c.lookup-in-Block.result _ _
    (λ found stands. on_all_block (g.S.Store.shape c.args.store.now) c.args.dir (g.S.Store.image c.args.store.now) c.read_form.new.inode c.read_block.new.bytes c.args.name.now c.in-Block.block found c.in_ok-core.ensures.bytes shown form read.size stands)
    (rw shape at c.lookup-in-Block.ensures.stands)

pub returns-in_ok-read_block-in-Block-clause-found : goal.returns-in_ok-read_block-in-Block-clause-found
returns-in_ok-read_block-in-Block-clause-found g c =
    let stays = c.in_ok-core.ensures.stays in
    let read = c.in_ok-read_block-in-Block.ensures in
    let shape = c.geometry.ensures ∙ read.stays.shape_stays ∙ stays.shape_stays in
    let form = rw c.in-Block.is at c.in_ok-core.ensures.form in
    let shown = rw (stays.image_stays, stays.shape_stays) at read.bytes in
    IfOk-weaker c.lookup-in-Block.result _ _
    (λ found stands. finds_over (g.S.Store.shape c.args.store.now) c.args.dir (g.S.Store.image c.args.store.now) c.args.name.now found
    (stands_block (g.S.Store.shape c.args.store.now) c.args.dir (g.S.Store.image c.args.store.now) c.read_form.new.inode c.read_block.new.bytes c.args.name.now c.in-Block.block found c.in_ok-core.ensures.bytes shown form read.size stands))
    (rw shape at c.lookup-in-Block.ensures.stands)

pub returns-in_err-fork-in-Hashed-clause-fault : goal.returns-in_err-fork-in-Hashed-clause-fault
returns-in_err-fork-in-Hashed-clause-fault g c =
    let form = rw c.in-Hashed.is at c.in_ok-core.ensures.form in
    let shape = c.geometry-in-Hashed.ensures ∙ c.in_ok-core.ensures.stays.shape_stays in
    let p = err_from_is_err_and c.from_residual-in_err-fork-in-Hashed.result c.from_residual-in_err-fork-in-Hashed.ensures.1 in
    rw (p.1, p.2) (over_size FailsBlocks (g.S.Store.shape c.args.store.now) c.args.dir (g.S.Store.image c.args.store.now) c.read_form.new.inode c.in_ok-core.core _ _ c.in_err-fork-in-Hashed.field-0.0 (λ one blocks rule block in_blocks wrong. (in_blocks, inl wrong))
    c.in_ok-core.ensures.bytes c.in_ok-core.ensures.sound form c.in_err-fork-in-Hashed.ensures.fault)

pub returns-in_ok-fork-in-Hashed-clause-stands : goal.returns-in_ok-fork-in-Hashed-clause-stands
returns-in_ok-fork-in-Hashed-clause-stands g c =
    let form = rw c.in-Hashed.is at c.in_ok-core.ensures.form in
    let stays = c.in_ok-core.ensures.stays in
    let fork = c.in_ok-fork-in-Hashed.ensures in
    IfOk-weaker c.lookup-in-Hashed.result _ _
    (λ found there. stands_hashed (g.S.Store.shape c.args.store.now) c.args.dir (g.S.Store.image c.args.store.now) c.read_form.new.inode c.args.name.now c.in_ok-fork-in-Hashed.fork found c.in_ok-core.ensures.bytes form fork.size fork.fork there)
    (rw (stays.image_stays, stays.shape_stays) at c.lookup-in-Hashed.ensures.there)

pub returns-in_ok-fork-in-Hashed-clause-found : goal.returns-in_ok-fork-in-Hashed-clause-found
returns-in_ok-fork-in-Hashed-clause-found g c =
    let form = rw c.in-Hashed.is at c.in_ok-core.ensures.form in
    let stays = c.in_ok-core.ensures.stays in
    let fork = c.in_ok-fork-in-Hashed.ensures in
    IfOk-weaker c.lookup-in-Hashed.result _ _
    (λ found all. finds_hashed (g.S.Store.shape c.args.store.now) c.args.dir (g.S.Store.image c.args.store.now) c.read_form.new.inode c.args.name.now c.in_ok-fork-in-Hashed.fork found c.in_ok-core.ensures.bytes form fork.fork all)
    (rw (stays.image_stays, stays.shape_stays) at c.lookup-in-Hashed.ensures.found)

pub returns-in_ok-fork-in-Hashed-clause-fault : goal.returns-in_ok-fork-in-Hashed-clause-fault
returns-in_ok-fork-in-Hashed-clause-fault g c =
    let form = rw c.in-Hashed.is at c.in_ok-core.ensures.form in
    let stays = c.in_ok-core.ensures.stays in
    let fork = c.in_ok-fork-in-Hashed.ensures in
    IfErr-weaker c.lookup-in-Hashed.result _ _
    (λ fault fails. over_blocks g.S.Store FailsBlocks FailsHashed c.args.dir c.read_form.new.inode c.in_ok-core.core c.in_ok-fork-in-Hashed.fork c.args.store.now c.read_form.new.store c.lookup-in-Hashed.new.store fault
    (λ one inode blocks rule block in_blocks size breaks. (in_blocks, inr (size, breaks))) stays c.in_ok-core.ensures.bytes c.in_ok-core.ensures.sound form fork.size fork.fork fails)
    (rw stays.shape_stays at c.lookup-in-Hashed.ensures.fault)

pub returns-in_err-core-clause-fetches : goal.returns-in_err-core-clause-fetches
returns-in_err-core-clause-fetches g c = (of_inode (g.S.Store.shape c.args.store.now) (g.S.Store.image c.args.store.now) c.args.dir (name_hash_of c.args.name.now) (g.S.Store.fetches c.args.store.now) (g.S.Store.fetches c.read_form.new.store) c.in_err-core.ensures.fetches).cost

pub returns-in_err-core-clause-reach : goal.returns-in_err-core-clause-reach
returns-in_err-core-clause-reach g c = (of_inode (g.S.Store.shape c.args.store.now) (g.S.Store.image c.args.store.now) c.args.dir (name_hash_of c.args.name.now) (g.S.Store.fetches c.args.store.now) (g.S.Store.fetches c.read_form.new.store) c.in_err-core.ensures.fetches).reach

pub returns-in_err-core-clause-most : goal.returns-in_err-core-clause-most
returns-in_err-core-clause-most g c = (of_inode (g.S.Store.shape c.args.store.now) (g.S.Store.image c.args.store.now) c.args.dir (name_hash_of c.args.name.now) (g.S.Store.fetches c.args.store.now) (g.S.Store.fetches c.read_form.new.store) c.in_err-core.ensures.fetches).most

pub returns-in-Short-clause-fetches : goal.returns-in-Short-clause-fetches
returns-in-Short-clause-fetches g c = (of_inode (g.S.Store.shape c.args.store.now) (g.S.Store.image c.args.store.now) c.args.dir (name_hash_of c.args.name.now) (g.S.Store.fetches c.args.store.now) (g.S.Store.fetches c.read_form.new.store) c.in_ok-core.ensures.fetches).cost

pub returns-in-Short-clause-reach : goal.returns-in-Short-clause-reach
returns-in-Short-clause-reach g c = (of_inode (g.S.Store.shape c.args.store.now) (g.S.Store.image c.args.store.now) c.args.dir (name_hash_of c.args.name.now) (g.S.Store.fetches c.args.store.now) (g.S.Store.fetches c.read_form.new.store) c.in_ok-core.ensures.fetches).reach

pub returns-in-Short-clause-most : goal.returns-in-Short-clause-most
returns-in-Short-clause-most g c = (of_inode (g.S.Store.shape c.args.store.now) (g.S.Store.image c.args.store.now) c.args.dir (name_hash_of c.args.name.now) (g.S.Store.fetches c.args.store.now) (g.S.Store.fetches c.read_form.new.store) c.in_ok-core.ensures.fetches).most

pub returns-in_err-read_block-in-Block-clause-fetches : goal.returns-in_err-read_block-in-Block-clause-fetches
returns-in_err-read_block-in-Block-clause-fetches g c =
    let form = rw c.in-Block.is at c.in_ok-core.ensures.form in
    (of_block (g.S.Store.shape c.args.store.now) (g.S.Store.image c.args.store.now) c.args.dir (name_hash_of c.args.name.now) (g.S.Store.fetches c.args.store.now) (g.S.Store.fetches c.read_block.new.store) c.read_form.new.inode c.in-Block.block
    c.in_ok-core.ensures.bytes form (omega (arith, c.in_ok-core.ensures.fetches, c.in_err-read_block-in-Block.ensures.fetches))).cost

pub returns-in_err-read_block-in-Block-clause-reach : goal.returns-in_err-read_block-in-Block-clause-reach
returns-in_err-read_block-in-Block-clause-reach g c =
    let form = rw c.in-Block.is at c.in_ok-core.ensures.form in
    (of_block (g.S.Store.shape c.args.store.now) (g.S.Store.image c.args.store.now) c.args.dir (name_hash_of c.args.name.now) (g.S.Store.fetches c.args.store.now) (g.S.Store.fetches c.read_block.new.store) c.read_form.new.inode c.in-Block.block
    c.in_ok-core.ensures.bytes form (omega (arith, c.in_ok-core.ensures.fetches, c.in_err-read_block-in-Block.ensures.fetches))).reach

pub returns-in_err-read_block-in-Block-clause-most : goal.returns-in_err-read_block-in-Block-clause-most
returns-in_err-read_block-in-Block-clause-most g c =
    let form = rw c.in-Block.is at c.in_ok-core.ensures.form in
    (of_block (g.S.Store.shape c.args.store.now) (g.S.Store.image c.args.store.now) c.args.dir (name_hash_of c.args.name.now) (g.S.Store.fetches c.args.store.now) (g.S.Store.fetches c.read_block.new.store) c.read_form.new.inode c.in-Block.block
    c.in_ok-core.ensures.bytes form (omega (arith, c.in_ok-core.ensures.fetches, c.in_err-read_block-in-Block.ensures.fetches))).most

pub returns-in_ok-read_block-in-Block-clause-fetches : goal.returns-in_ok-read_block-in-Block-clause-fetches
returns-in_ok-read_block-in-Block-clause-fetches g c =
    let form = rw c.in-Block.is at c.in_ok-core.ensures.form in
    (of_block (g.S.Store.shape c.args.store.now) (g.S.Store.image c.args.store.now) c.args.dir (name_hash_of c.args.name.now) (g.S.Store.fetches c.args.store.now) (g.S.Store.fetches c.read_block.new.store) c.read_form.new.inode c.in-Block.block
    c.in_ok-core.ensures.bytes form (omega (arith, c.in_ok-core.ensures.fetches, c.in_ok-read_block-in-Block.ensures.fetches))).cost

pub returns-in_ok-read_block-in-Block-clause-reach : goal.returns-in_ok-read_block-in-Block-clause-reach
returns-in_ok-read_block-in-Block-clause-reach g c =
    let form = rw c.in-Block.is at c.in_ok-core.ensures.form in
    (of_block (g.S.Store.shape c.args.store.now) (g.S.Store.image c.args.store.now) c.args.dir (name_hash_of c.args.name.now) (g.S.Store.fetches c.args.store.now) (g.S.Store.fetches c.read_block.new.store) c.read_form.new.inode c.in-Block.block
    c.in_ok-core.ensures.bytes form (omega (arith, c.in_ok-core.ensures.fetches, c.in_ok-read_block-in-Block.ensures.fetches))).reach

pub returns-in_ok-read_block-in-Block-clause-most : goal.returns-in_ok-read_block-in-Block-clause-most
returns-in_ok-read_block-in-Block-clause-most g c =
    let form = rw c.in-Block.is at c.in_ok-core.ensures.form in
    (of_block (g.S.Store.shape c.args.store.now) (g.S.Store.image c.args.store.now) c.args.dir (name_hash_of c.args.name.now) (g.S.Store.fetches c.args.store.now) (g.S.Store.fetches c.read_block.new.store) c.read_form.new.inode c.in-Block.block
    c.in_ok-core.ensures.bytes form (omega (arith, c.in_ok-core.ensures.fetches, c.in_ok-read_block-in-Block.ensures.fetches))).most

pub returns-in_err-fork-in-Hashed-clause-fetches : goal.returns-in_err-fork-in-Hashed-clause-fetches
returns-in_err-fork-in-Hashed-clause-fetches g c = (of_inode (g.S.Store.shape c.args.store.now) (g.S.Store.image c.args.store.now) c.args.dir (name_hash_of c.args.name.now) (g.S.Store.fetches c.args.store.now) (g.S.Store.fetches c.read_form.new.store) c.in_ok-core.ensures.fetches).cost

pub returns-in_err-fork-in-Hashed-clause-reach : goal.returns-in_err-fork-in-Hashed-clause-reach
returns-in_err-fork-in-Hashed-clause-reach g c = (of_inode (g.S.Store.shape c.args.store.now) (g.S.Store.image c.args.store.now) c.args.dir (name_hash_of c.args.name.now) (g.S.Store.fetches c.args.store.now) (g.S.Store.fetches c.read_form.new.store) c.in_ok-core.ensures.fetches).reach

pub returns-in_err-fork-in-Hashed-clause-most : goal.returns-in_err-fork-in-Hashed-clause-most
returns-in_err-fork-in-Hashed-clause-most g c = (of_inode (g.S.Store.shape c.args.store.now) (g.S.Store.image c.args.store.now) c.args.dir (name_hash_of c.args.name.now) (g.S.Store.fetches c.args.store.now) (g.S.Store.fetches c.read_form.new.store) c.in_ok-core.ensures.fetches).most

pub returns-in_ok-fork-in-Hashed-clause-fetches : goal.returns-in_ok-fork-in-Hashed-clause-fetches
returns-in_ok-fork-in-Hashed-clause-fetches g c =
    let form = rw c.in-Hashed.is at c.in_ok-core.ensures.form in
    let stays = c.in_ok-core.ensures.stays in
    (of_hash (g.S.Store.shape c.args.store.now) (g.S.Store.image c.args.store.now) c.args.dir (name_hash_of c.args.name.now) (g.S.Store.fetches c.args.store.now) (g.S.Store.fetches c.read_form.new.store) (g.S.Store.fetches c.lookup-in-Hashed.new.store) c.read_form.new.inode c.in_ok-fork-in-Hashed.fork
    c.in_ok-core.ensures.bytes form c.in_ok-fork-in-Hashed.ensures.fork c.in_ok-core.ensures.fetches (rw (stays.image_stays, stays.shape_stays) at c.lookup-in-Hashed.ensures.fetches) c.lookup-in-Hashed.ensures.most).cost

pub returns-in_ok-fork-in-Hashed-clause-reach : goal.returns-in_ok-fork-in-Hashed-clause-reach
returns-in_ok-fork-in-Hashed-clause-reach g c =
    let form = rw c.in-Hashed.is at c.in_ok-core.ensures.form in
    let stays = c.in_ok-core.ensures.stays in
    (of_hash (g.S.Store.shape c.args.store.now) (g.S.Store.image c.args.store.now) c.args.dir (name_hash_of c.args.name.now) (g.S.Store.fetches c.args.store.now) (g.S.Store.fetches c.read_form.new.store) (g.S.Store.fetches c.lookup-in-Hashed.new.store) c.read_form.new.inode c.in_ok-fork-in-Hashed.fork
    c.in_ok-core.ensures.bytes form c.in_ok-fork-in-Hashed.ensures.fork c.in_ok-core.ensures.fetches (rw (stays.image_stays, stays.shape_stays) at c.lookup-in-Hashed.ensures.fetches) c.lookup-in-Hashed.ensures.most).reach

pub returns-in_ok-fork-in-Hashed-clause-most : goal.returns-in_ok-fork-in-Hashed-clause-most
returns-in_ok-fork-in-Hashed-clause-most g c =
    let form = rw c.in-Hashed.is at c.in_ok-core.ensures.form in
    let stays = c.in_ok-core.ensures.stays in
    (of_hash (g.S.Store.shape c.args.store.now) (g.S.Store.image c.args.store.now) c.args.dir (name_hash_of c.args.name.now) (g.S.Store.fetches c.args.store.now) (g.S.Store.fetches c.read_form.new.store) (g.S.Store.fetches c.lookup-in-Hashed.new.store) c.read_form.new.inode c.in_ok-fork-in-Hashed.fork
    c.in_ok-core.ensures.bytes form c.in_ok-fork-in-Hashed.ensures.fork c.in_ok-core.ensures.fetches (rw (stays.image_stays, stays.shape_stays) at c.lookup-in-Hashed.ensures.fetches) c.lookup-in-Hashed.ensures.most).most
