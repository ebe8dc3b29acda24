use Rattle.xn_dir.proofs.Collecting.{Taken}
use Rattle.xn_dir.proofs.block_form.entries_of.Given as goal

abbrev pub invariant-loop-entry : goal.invariant-loop-entry
invariant-loop-entry l = Taken l.fn.entries l.listed.items l.entry-iterator
