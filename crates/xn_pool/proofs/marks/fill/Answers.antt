use Rattle.xn_pool.proofs.LeafFills.{marked_after_fill, leaf_filled}
use Rattle.xn_pool.proofs.marks.fill.Goals as goal

pub raise-requires-clause-marked : goal.raise-requires-clause-marked
raise-requires-clause-marked c = marked_after_fill _ _ _ c.requires.leaf c.requires.marked

pub returns : goal.returns
returns c = leaf_filled _ _ _ _ c.requires.within c.requires.some c.requires.few c.raise.ensures.marked c.raise.ensures.told c.raise.ensures.same
