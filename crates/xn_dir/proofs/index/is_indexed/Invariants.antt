use Rattle.xn_dir.proofs.Indexes.{Matches}
use Rattle.xn_dir.proofs.index.is_indexed.Given as goal

abbrev pub invariant-loop-entry : goal.invariant-loop-entry
invariant-loop-entry l = Matches l.first l.live l.entry-iterator
