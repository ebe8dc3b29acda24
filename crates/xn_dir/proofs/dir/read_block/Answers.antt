use Rattle.std.proofs.Common.{sym, ◌∙◌}
use Rattle.xn_bytes.specs.DirectoryRules.{BreaksBlocks, FailsBlocks}
use Rattle.xn_dir.proofs.OverImages.{over_size, block_in_range, one_block}
use Rattle.xn_dir.proofs.dir.read_block.Goals as goal

pub returns-then-size-clause-fault : goal.returns-then-size-clause-fault
returns-then-size-clause-fault g c =
    rw c.of_rule.ensures (over_size BreaksBlocks (g.S.Store.shape c.args.store.now) c.args.dir (g.S.Store.image c.args.store.now) c.args.inode.now c.args.core.now c.args.block (g.S.Store.faults c.args.store.now) (g.S.Store.faults c.args.store.now) c.requires.inode c.requires.sound c.requires.form
    (λ same. c.if-size.true (c.size.ensures ∙ same)))

pub returns-then-size-clause-seen : goal.returns-then-size-clause-seen
returns-then-size-clause-seen g c =
    rw c.of_rule.ensures (over_size FailsBlocks (g.S.Store.shape c.args.store.now) c.args.dir (g.S.Store.image c.args.store.now) c.args.inode.now c.args.core.now c.args.block (g.S.Store.faults c.args.store.now) (g.S.Store.faults c.args.store.now) c.requires.inode c.requires.sound c.requires.form
    (λ same. c.if-size.true (c.size.ensures ∙ same)))

pub block-requires-clause-place : goal.block-requires-clause-place
block-requires-clause-place g c =
    block_in_range (g.S.Store.shape c.args.store.now) c.args.dir c.args.inode.now c.args.core.now c.args.block c.requires.sound c.requires.form

pub returns-clause-place : goal.returns-clause-place
returns-clause-place g c =
    rw c.in_ok-block.ensures.shape (block_in_range (g.S.Store.shape c.args.store.now) c.args.dir c.args.inode.now c.args.core.now c.args.block c.requires.sound c.requires.form)

pub returns-clause-size : goal.returns-clause-size
returns-clause-size g c =
    one_block (g.S.Store.shape c.args.store.now) c.args.dir c.args.inode.now c.args.core.now c.args.block c.requires.sound c.requires.form (sym c.size.ensures ∙ c.if-size.false)
