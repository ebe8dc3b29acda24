use Rattle.std.proofs.Common.{arith}
use Rattle.xn_make.proofs.SampleImages.{inodes_none, inodes_more, inodes_all}
use Rattle.xn_make.proofs.samples.put_inodes.Goals as goal

pub loop-place-init : goal.loop-place-init
loop-place-init c = record { has = inodes_none c.args.inodes c.args.image.now }

pub put_sector-requires : goal.put_sector-requires
put_sector-requires c = omega (arith, c.loop-place.invariant.has.whole, c.requires)

pub loop-place-preserved : goal.loop-place-preserved
loop-place-preserved c = record {
  has = inodes_more c.args.inodes c.loop-place.place c.args.image.now c.loop-place.image c.put_sector.new.image c.inode.result c.loop-place.invariant.has c.requires
      (omega arith) (omega arith) c.put_sector.ensures.value c.inode.ensures;
}

pub returns : goal.returns
returns c = inodes_all c.args.inodes c.loop-place.place c.args.image.now c.loop-place.image c.loop-place.invariant.has (omega arith)
