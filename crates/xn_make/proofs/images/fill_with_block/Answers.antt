use Rattle.std.proofs.Common.{◌∙◌}
use Rattle.xn_make.proofs.BlockImages.{block_image_made, block_fits}
use Rattle.xn_make.proofs.images.fill_with_block.Goals as goal

pub put_bytes-requires : goal.put_bytes-requires
put_bytes-requires c =
    block_fits c.args.image.now c.put_sector.new.image c.put_inodes.new.image c.args.block.now c.requires.blank.whole c.put_sector.ensures.length c.put_inodes.ensures.length c.requires.block.whole

pub returns-clause-made : goal.returns-clause-made
returns-clause-made c =
    block_image_made c.args.image.now c.put_sector.new.image c.put_inodes.new.image c.put_bytes.new.bytes c.superblock.result c.args.block.now
    c.requires.blank c.superblock.ensures.whole c.put_sector.ensures.value c.put_inodes.ensures.made c.put_inodes.ensures.length c.put_bytes.ensures.value c.superblock.ensures c.requires.block

pub returns-clause-length : goal.returns-clause-length
returns-clause-length c = c.put_bytes.ensures.length ∙ c.put_inodes.ensures.length ∙ c.put_sector.ensures.length
