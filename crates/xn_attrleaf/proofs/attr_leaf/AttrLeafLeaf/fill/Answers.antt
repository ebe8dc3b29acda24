use Rattle.std.proofs.Common.{arith}
use Rattle.xn_attrleaf.specs.Laws.{same_sizes}
use Rattle.xn_attrleaf.proofs.attr_leaf.AttrLeafLeaf.fill.Goals as goal

pub fill-requires-clause-fits : goal.fill-requires-clause-fits
fill-requires-clause-fits c = omega (arith, same_sizes c.args.entries.now c.requires.fits, c.requires.fits)
