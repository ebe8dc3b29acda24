use Rattle.xn_short.proofs.Finding.{Passed}
use Rattle.xn_short.proofs.short.Short.find.Given as goal

abbrev pub invariant-loop-entry : goal.invariant-loop-entry
invariant-loop-entry l = Passed l.name l.self.entries l.yielded l.entry-iterator
