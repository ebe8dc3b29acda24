use Rattle.xn_pool.proofs.MarkSteps.{IsLowering}
use Rattle.xn_pool.proofs.marks.lower.Given as goal

abbrev pub invariant-loop-word : goal.invariant-loop-word
invariant-loop-word l = IsLowering l.fn.word l.fn.words l.words l.word

abbrev pub decreases-loop-word : goal.decreases-loop-word
decreases-loop-word l = l.word
