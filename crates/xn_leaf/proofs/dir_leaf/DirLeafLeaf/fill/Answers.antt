use Rattle.std.proofs.Common.{arith}
use Rattle.xn_leaf.specs.Laws.{sum_eights}
use Rattle.xn_leaf.proofs.dir_leaf.DirLeafLeaf.fill.Goals as goal

pub fill-requires-clause-few : goal.fill-requires-clause-few
fill-requires-clause-few c = omega (arith, sum_eights c.args.entries.now, c.requires.fits)
