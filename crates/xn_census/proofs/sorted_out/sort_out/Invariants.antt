use Rattle.xn_census.specs.SortedOut.{SortsOut}
use Rattle.xn_census.proofs.sorted_out.sort_out.Given as goal

abbrev pub invariant-loop-held : goal.invariant-loop-held
invariant-loop-held l = SortsOut l.nodes l.yielded l.out
