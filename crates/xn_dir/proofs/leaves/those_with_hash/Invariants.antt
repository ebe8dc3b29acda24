use Rattle.std.proofs.Common.{◌≡◌}
use Rattle.std.specs.Prelude.{◌==◌, filter, take}
use Rattle.xn_dir.proofs.leaves.those_with_hash.Given as goal

abbrev pub invariant-loop-leaf : goal.invariant-loop-leaf
invariant-loop-leaf l = l.found.items ≡ filter (λ leaf. leaf.hash == l.hash) (take l.leaf-index l.leaves)
