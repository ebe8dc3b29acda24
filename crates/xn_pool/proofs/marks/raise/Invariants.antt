use Rattle.xn_pool.proofs.MarkSteps.{IsRaising}
use Rattle.xn_pool.proofs.marks.raise.Given as goal

abbrev pub invariant-loop-word : goal.invariant-loop-word
invariant-loop-word l = IsRaising l.fn.words l.words l.word

abbrev pub decreases-loop-word : goal.decreases-loop-word
decreases-loop-word l = l.word
