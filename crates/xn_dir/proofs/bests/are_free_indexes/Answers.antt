use Rattle.std.proofs.Common.{◌-◌, ℕ, List}
use Rattle.std.specs.Prelude.{◌↔◌, IsTrue}
use Rattle.xn_bytes.specs.Superblock.{Geometry}
use Rattle.xn_bytes.specs.Blocks.{block_of}
use Rattle.xn_bytes.specs.HashedTree.{free_file_block}
use Rattle.xn_inode.proofs.Frames.{stays_on}
use Rattle.xn_dir.specs.Bests.{AreRising, IsNotedIndex}
use Rattle.xn_dir.proofs.FreeBlocks.{at_first, one_wrong, read_free, read_on, reads_on}
use Rattle.xn_dir.proofs.bests.are_free_indexes.Goals as goal

pub returns-in_err-is_free_index-clause-fetches : goal.returns-in_err-is_free_index-clause-fetches
returns-in_err-is_free_index-clause-fetches g c =
    let loop = c.loop-file_block.invariant in
    read_free _ _ _ _ (read_on _ _ _ _ _ _ _ _ loop.reads loop.high c.in-Some.ensures c.in_err-is_free_index.ensures.fetches)

pub returns-then-not-branch-clause-right : goal.returns-then-not-branch-clause-right
returns-then-not-branch-clause-right g c =
    let loop = c.loop-file_block.invariant in
    let bests = c.args.noted.now in
    let file_block = c.in-Some.file_block in
    let block = c.in-Some.block in
    let right = c.in_ok-is_free_index.field-0 in
    let P : Geometry → List ℕ → Type 0 = λ shape x. AreRising bests → IsTrue right ↔ IsNotedIndex shape c.args.dir bests (file_block - free_file_block) block (block_of shape x block) in
    let over = at_first g.S.Store c.args.dir c.args.extents.now bests c.args.store.now c.loop-file_block.store loop.stays P c.in_ok-is_free_index.ensures.right in
    one_wrong g.S.Store c.args.dir c.args.extents.now bests c.args.store.now c.loop-file_block.store c.loop-file_block.from _ file_block block right loop c.in-Some.ensures over c.if-not-branch.true

pub returns-then-not-branch-clause-fetches : goal.returns-then-not-branch-clause-fetches
returns-then-not-branch-clause-fetches g c =
    let loop = c.loop-file_block.invariant in
    read_free _ _ _ _ (read_on _ _ _ _ _ _ _ _ loop.reads loop.high c.in-Some.ensures c.in_ok-is_free_index.ensures.fetches)

pub loop-file_block-preserved : goal.loop-file_block-preserved
loop-file_block-preserved g c =
    let loop = c.loop-file_block.invariant in
    let bests = c.args.noted.now in
    let file_block = c.in-Some.file_block in
    let block = c.in-Some.block in
    let right = c.in_ok-is_free_index.field-0 in
    let P : Geometry → List ℕ → Type 0 = λ shape x. AreRising bests → IsTrue right ↔ IsNotedIndex shape c.args.dir bests (file_block - free_file_block) block (block_of shape x block) in
    let over = at_first g.S.Store c.args.dir c.args.extents.now bests c.args.store.now c.loop-file_block.store loop.stays P c.in_ok-is_free_index.ensures.right in
    let stays = stays_on g.S.Store g.met.S.Store.only_read_on _ _ _ loop.stays c.in_ok-is_free_index.ensures.stays in
    reads_on g.S.Store c.args.dir c.args.extents.now bests c.args.store.now c.loop-file_block.store c.is_free_index.new.store c.loop-file_block.from _ file_block block right loop c.in-Some.ensures stays
    c.in_ok-is_free_index.ensures.fetches over c.if-not-branch.false
