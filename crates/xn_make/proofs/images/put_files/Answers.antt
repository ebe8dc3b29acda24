use Rattle.std.proofs.Common.{arith}
use Rattle.xn_make.proofs.BlockImages.{files_none, files_more, files_all}
use Rattle.xn_make.proofs.images.put_files.Goals as goal

pub loop-number-init : goal.loop-number-init
loop-number-init c = record { files = files_none c.args.image.now; whole = omega arith }

pub loop-number-preserved : goal.loop-number-preserved
loop-number-preserved c = record {
  files = files_more c.args.image.now c.loop-number.image c.put_sector.new.image c.loop-number.number c.regular_inode.result c.loop-number.invariant.files c.loop-number.invariant.whole
      (omega arith) (omega arith) (omega arith) c.put_sector.ensures.value c.regular_inode.ensures;
  whole = omega (arith, c.put_sector.ensures.length);
}

pub returns-clause-made : goal.returns-clause-made
returns-clause-made c = files_all c.args.image.now c.loop-number.image c.loop-number.number c.loop-number.invariant.files (omega arith)
