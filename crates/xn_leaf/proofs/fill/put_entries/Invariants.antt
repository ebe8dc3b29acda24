use Rattle.xn_leaf.proofs.Filling.{PutsFirst}
use Rattle.xn_leaf.proofs.fill.put_entries.Given as goal

abbrev pub invariant-loop-index : goal.invariant-loop-index
invariant-loop-index l = PutsFirst l.index l.initial.block l.block l.entries
