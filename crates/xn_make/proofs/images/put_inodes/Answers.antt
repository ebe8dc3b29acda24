use Rattle.std.proofs.Common.{arith}
use Rattle.xn_make.proofs.BlockImages.{inodes_made}
use Rattle.xn_make.proofs.images.put_inodes.Goals as goal

pub returns-clause-made : goal.returns-clause-made
returns-clause-made c =
    inodes_made c.args.image.now c.put_sector.new.image c.put_sector-2.new.image c.put_files.new.image c.directory_in_block-root.result c.directory_inode.result
    c.requires (omega arith) (omega arith) c.put_sector.ensures.value c.put_sector-2.ensures.value c.put_sector.ensures.length
    c.directory_in_block-root.ensures c.directory_inode.ensures c.put_files.ensures.made
