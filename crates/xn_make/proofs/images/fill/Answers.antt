use Rattle.std.proofs.Common.{arith}
use Rattle.xn_make.proofs.WholeImages.{image-made}
use Rattle.xn_make.proofs.images.fill.Goals as goal

pub returns-clause-made : goal.returns-clause-made
returns-clause-made c =
    image-made c.args.image.now c.put_sector.new.image c.put_sector-2.new.image c.superblock.result c.directory_inode.result c.args.form.now
    c.requires.blank c.superblock.ensures.whole (omega arith) c.put_sector.ensures.value c.put_sector-2.ensures.value c.superblock.ensures c.directory_inode.ensures
