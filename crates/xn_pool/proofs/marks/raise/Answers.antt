use Rattle.xn_pool.proofs.MarkSteps.{raised_one}
use Rattle.xn_pool.proofs.marks.raise.Goals as goal

pub loop-word-preserved : goal.loop-word-preserved
loop-word-preserved c = raised_one _ _ _ _ c.loop-word-test.true c.loop-word.invariant c.mark.ensures
