use Rattle.xn_pool.proofs.MarkSteps.{lowered_one}
use Rattle.xn_pool.proofs.marks.lower.Goals as goal

pub loop-word-preserved : goal.loop-word-preserved
loop-word-preserved c =
    lowered_one _ _ _ _ _ c.loop-word-test.true c.if-words-word-eq0.true c.loop-word.invariant c.unmark.ensures.at c.unmark.ensures.no_more
