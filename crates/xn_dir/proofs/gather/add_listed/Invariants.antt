use Rattle.xn_dir.proofs.Gatherings.{Listing}
use Rattle.xn_dir.proofs.gather.add_listed.Given as goal

abbrev pub invariant-loop-entry : goal.invariant-loop-entry
invariant-loop-entry l = Listing l.number l.initial.listed.items l.fn.entries l.listed.items l.entry-iterator
