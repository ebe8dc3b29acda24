use Rattle.std.proofs.Common.{◌<◌}
use Rattle.std.specs.List.{AllAdjacentBelow}
use Rattle.xn_names_tests.proofs.lists.directories_rise.Given as goal

abbrev pub invariant-loop-next : goal.invariant-loop-next
invariant-loop-next l = AllAdjacentBelow (λ a b. a.dir < b.dir) l.parents l.next
