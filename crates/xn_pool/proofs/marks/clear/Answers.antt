use Rattle.xn_pool.proofs.LeafChanges.{marked_after_clear, leaf_cleared}
use Rattle.xn_pool.proofs.marks.clear.Goals as goal

pub lower-requires-clause-marked : goal.lower-requires-clause-marked
lower-requires-clause-marked c = marked_after_clear _ _ _ c.requires.leaf c.unmark.ensures.at c.unmark.ensures.no_more c.requires.marked

pub returns : goal.returns
returns c = leaf_cleared _ _ _ _ c.unmark.ensures.at c.lower.ensures.marked c.lower.ensures.told c.lower.ensures.same
