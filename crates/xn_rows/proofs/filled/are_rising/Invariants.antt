use Rattle.std.proofs.Common.{drop}
use Rattle.xn_datree.proofs.Rising.{GoesOn}
use Rattle.xn_rows.proofs.filled.are_rising.Given as goal

abbrev pub invariant-loop-entry : goal.invariant-loop-entry
invariant-loop-entry g l = GoesOn g.L.Leaf.hash l.entries l.least (drop l.entry-index l.entries)
