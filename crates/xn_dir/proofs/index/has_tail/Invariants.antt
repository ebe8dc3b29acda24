use Rattle.xn_dir.proofs.Tails.{Goes}
use Rattle.xn_dir.proofs.index.has_tail.Given as goal

abbrev pub invariant-loop-hash : goal.invariant-loop-hash
invariant-loop-hash l = Goes l.first l.least l.stale l.hash-iterator
