use Rattle.std.proofs.Common.{◌≡◌, ◌%◌, All}
use Rattle.xn_names_tests.proofs.lists.listed.Given as goal

abbrev pub invariant-loop-dir : goal.invariant-loop-dir
invariant-loop-dir l = All (λ n. n.generation ≡ n.dir % 1000) l.namings.items
