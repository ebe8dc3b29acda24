use Rattle.xn_pool.proofs.LeafChanges.{some_after, marked_after_set, leaf_set}
use Rattle.xn_pool.proofs.marks.set.Goals as goal

pub raise-requires-clause-some : goal.raise-requires-clause-some
raise-requires-clause-some c = some_after _ _ _ c.mark.ensures

pub raise-requires-clause-marked : goal.raise-requires-clause-marked
raise-requires-clause-marked c = marked_after_set _ _ _ c.mark.ensures c.requires.marked

pub returns : goal.returns
returns c = leaf_set _ _ _ _ c.mark.ensures c.raise.ensures.marked c.raise.ensures.told c.raise.ensures.same
