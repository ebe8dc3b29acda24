use Rattle.std.proofs.Common.{◌≡◌, ◌++◌}
use Rattle.std.specs.Prelude.{filter, ◌==◌}
use Rattle.xn_datree.proofs.find.take_with_hash.Given as goal

abbrev pub invariant-loop-entry : goal.invariant-loop-entry
invariant-loop-entry g l = l.found.items ≡ l.initial.found.items ++ filter (λ entry. g.L.Leaf.hash entry == l.hash) l.yielded
