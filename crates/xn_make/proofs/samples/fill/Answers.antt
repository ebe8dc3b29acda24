use Rattle.std.proofs.Common.{arith, ◌∙◌}
use Rattle.xn_make.proofs.SampleImages.{sample_made, inodes_fit}
use Rattle.xn_make.proofs.samples.fill.Goals as goal

pub put_sector-requires : goal.put_sector-requires
put_sector-requires c = omega (arith, c.requires.blank.whole)

pub put_inodes-requires : goal.put_inodes-requires
put_inodes-requires c = inodes_fit c.args.inodes c.args.pool c.args.image.now c.put_sector.new.image c.requires.fit c.requires.blank c.put_sector.ensures.length

pub returns-clause-made : goal.returns-clause-made
returns-clause-made c =
    sample_made c.args.inodes c.args.pool c.args.image.now c.put_sector.new.image c.put_inodes.new.image c.superblock.result
    c.requires.fit c.requires.blank c.superblock.ensures.whole c.put_sector.ensures.value c.superblock.ensures c.put_inodes.ensures

pub returns-clause-length : goal.returns-clause-length
returns-clause-length c = c.put_inodes.ensures.whole ∙ c.put_sector.ensures.length
