use Rattle.xn_pool.proofs.RunsHeld.{AreHeld}
use Rattle.xn_pool.proofs.runs.Runs.new.Given as goal

abbrev pub invariant-loop-block : goal.invariant-loop-block
invariant-loop-block l = AreHeld l.runs l.block-index l.starts.items l.count
