use Rattle.std.proofs.Common.{◌∙◌, ◌≡◌, inl, inr}
use Rattle.std.proofs.lemmas.Result.{err_from_is_err_and, IfErr-weaker, IfOk-weaker}
use Rattle.xn_bytes.specs.DirectoryRules.{FailsBlocks, FailsData}
use Rattle.xn_dir.proofs.OverImages.{over_short, over_first, parent_short, parent_block}
use Rattle.xn_dir.proofs.HashedOver.{over_size, over_blocks, dotdot_hashed}
use Rattle.xn_dir.proofs.dir.Dir.parent.Goals as goal

pub returns-in-Short-clause-parent : goal.returns-in-Short-clause-parent
returns-in-Short-clause-parent g c =
    IfOk-weaker c.parent.result _ _
    (λ dotdot holds. parent_short (g.S.Store.shape c.args.store.now) c.args.dir (g.S.Store.image c.args.store.now) c.read_form.new.inode dotdot c.in_ok-core.ensures.bytes holds)
    c.parent.ensures.holds

pub returns-in-Short-clause-fault : goal.returns-in-Short-clause-fault
returns-in-Short-clause-fault g c =
    let form = rw c.in-Short.is at c.in_ok-core.ensures.form in
    IfErr-weaker c.parent.result _ _
    (λ fault is. over_short FailsBlocks (g.S.Store.shape c.args.store.now) c.args.dir (g.S.Store.image c.args.store.now) c.read_form.new.inode c.in_ok-core.core _ _ fault c.in_ok-core.ensures.bytes c.in_ok-core.ensures.sound form is)
    c.parent.ensures.fault

pub returns-in_ok-read_block-in-Block-clause-parent : goal.returns-in_ok-read_block-in-Block-clause-parent
returns-in_ok-read_block-in-Block-clause-parent g c =
    let stays = c.in_ok-core.ensures.stays in
    let read = c.in_ok-read_block-in-Block.ensures in
    let shape = c.geometry.ensures ∙ read.stays.shape_stays ∙ stays.shape_stays in
    let form = rw c.in-Block.is at c.in_ok-core.ensures.form in
    let shown = rw (stays.image_stays, stays.shape_stays) at read.bytes in
    IfOk-weaker c.parent-in-Block.result _ _
    (λ dotdot holds. parent_block (g.S.Store.shape c.args.store.now) c.args.dir (g.S.Store.image c.args.store.now) c.read_form.new.inode c.read_block.new.bytes c.in-Block.block dotdot c.in_ok-core.ensures.bytes shown form read.size holds)
    (rw shape at c.parent-in-Block.ensures.holds)

pub returns-in_ok-read_block-in-Block-clause-fault : goal.returns-in_ok-read_block-in-Block-clause-fault
returns-in_ok-read_block-in-Block-clause-fault g c =
    let stays = c.in_ok-core.ensures.stays in
    let read = c.in_ok-read_block-in-Block.ensures in
    let shape = c.geometry.ensures ∙ read.stays.shape_stays ∙ stays.shape_stays in
    let form = rw c.in-Block.is at c.in_ok-core.ensures.form in
    let shown = rw (stays.image_stays, stays.shape_stays) at read.bytes in
    IfErr-weaker c.parent-in-Block.result _ _
    (λ fault is. over_first FailsBlocks (g.S.Store.shape c.args.store.now) c.args.dir (g.S.Store.image c.args.store.now) c.read_form.new.inode c.read_block.new.bytes c.in_ok-core.core c.in-Block.block _ _ fault c.in_ok-core.ensures.bytes shown c.in_ok-core.ensures.sound form read.size is)
    (rw shape at c.parent-in-Block.ensures.fault)

pub returns-in_err-fork-in-Hashed-clause-fault : goal.returns-in_err-fork-in-Hashed-clause-fault
returns-in_err-fork-in-Hashed-clause-fault g c =
    let form = rw c.in-Hashed.is at c.in_ok-core.ensures.form in
    let shape = c.geometry-in-Hashed.ensures ∙ c.in_ok-core.ensures.stays.shape_stays in
    let p = err_from_is_err_and c.from_residual-in_err-fork-in-Hashed.result c.from_residual-in_err-fork-in-Hashed.ensures.1 in
    rw (p.1, p.2) (over_size FailsBlocks (g.S.Store.shape c.args.store.now) c.args.dir (g.S.Store.image c.args.store.now) c.read_form.new.inode c.in_ok-core.core _ _ c.in_err-fork-in-Hashed.field-0.0 (λ one blocks rule block in_blocks wrong. (in_blocks, inl wrong))
    c.in_ok-core.ensures.bytes c.in_ok-core.ensures.sound form c.in_err-fork-in-Hashed.ensures.fault)

pub returns-in_ok-fork-in-Hashed-clause-parent : goal.returns-in_ok-fork-in-Hashed-clause-parent
returns-in_ok-fork-in-Hashed-clause-parent g c =
    let form = rw c.in-Hashed.is at c.in_ok-core.ensures.form in
    let stays = c.in_ok-core.ensures.stays in
    let fork = c.in_ok-fork-in-Hashed.ensures in
    IfOk-weaker c.parent-in-Hashed.result _ _
    (λ dotdot has. dotdot_hashed (g.S.Store.shape c.args.store.now) c.args.dir (g.S.Store.image c.args.store.now) c.read_form.new.inode c.in_ok-fork-in-Hashed.fork dotdot c.in_ok-core.ensures.bytes form fork.size fork.fork has)
    (rw (stays.image_stays, stays.shape_stays) at c.parent-in-Hashed.ensures.dotdot)

pub returns-in_ok-fork-in-Hashed-clause-fault : goal.returns-in_ok-fork-in-Hashed-clause-fault
returns-in_ok-fork-in-Hashed-clause-fault g c =
    let form = rw c.in-Hashed.is at c.in_ok-core.ensures.form in
    let stays = c.in_ok-core.ensures.stays in
    let fork = c.in_ok-fork-in-Hashed.ensures in
    IfErr-weaker c.parent-in-Hashed.result _ _
    (λ fault fails. over_blocks g.S.Store FailsBlocks (λ d rule block. (rule ≡ 17) × FailsData d 0 block) c.args.dir c.read_form.new.inode c.in_ok-core.core c.in_ok-fork-in-Hashed.fork c.args.store.now c.read_form.new.store c.parent-in-Hashed.new.store fault
    (λ one inode blocks rule block in_blocks size breaks. (in_blocks, inr (size, inl (breaks.0, (0, breaks.1))))) stays c.in_ok-core.ensures.bytes c.in_ok-core.ensures.sound form fork.size fork.fork fails)
    (rw stays.shape_stays at c.parent-in-Hashed.ensures.fault)
