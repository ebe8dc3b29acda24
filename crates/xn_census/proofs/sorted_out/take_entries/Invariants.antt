use Rattle.std.proofs.Common.{◌≡◌, ◌++◌}
use Rattle.std.specs.Prelude.{map}
use Rattle.xn_census.specs.SortedOut.{named_in, steps_in}
use Rattle.xn_census.proofs.sorted_out.take_entries.Given as goal

abbrev pub invariant-loop-entry : goal.invariant-loop-entry
invariant-loop-entry l = record {
  dir : l.dir ≡ l.fn.held.dir;
  generation : l.generation ≡ l.fn.held.generation;
  namings : l.namings.items ≡ l.fn.namings.items ++ map (named_in l.fn.held) l.yielded;
  steps : l.steps.items ≡ l.fn.steps.items ++ steps_in l.fn.held l.yielded;
}
