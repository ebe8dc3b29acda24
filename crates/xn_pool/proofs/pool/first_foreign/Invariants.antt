use Rattle.xn_pool.proofs.HomeRuns.{AreHomeBelow}
use Rattle.xn_pool.proofs.pool.first_foreign.Given as goal

abbrev pub invariant-loop-at : goal.invariant-loop-at
invariant-loop-at l = AreHomeBelow l.geometry l.at l.runs
