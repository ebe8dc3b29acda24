use Rattle.std.proofs.Common.{List, ℕ, arith, subst}
use Rattle.xn_make.specs.SpelledInodes.{IsInodeSpelled}
use Rattle.xn_make.proofs.BlockInodeBytes.{block_numbers, block_inode}
use Rattle.xn_make.proofs.inodes.directory_in_block.Goals as goal

pub returns : goal.returns
returns c =
    let P : List ℕ → Type 0 = λ (fork : List ℕ). IsInodeSpelled c.inode.result (block_numbers c.args.number) fork in
    block_inode c.inode.result c.args.number c.args.block (subst P c.one_extent.ensures c.inode.ensures.spelled) c.inode.ensures.checksum (omega arith) (omega arith)
