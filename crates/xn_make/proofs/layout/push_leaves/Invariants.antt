use Rattle.std.proofs.Common.{◌≡◌, ◌++◌, map, drop}
use Rattle.xn_make.specs.SpelledBlocks.{leaves_bytes}
use Rattle.xn_make.specs.Laid.{leaf_entry}
use Rattle.xn_make.proofs.layout.push_leaves.Given as goal

abbrev pub invariant-loop-leaf : goal.invariant-loop-leaf
invariant-loop-leaf l = l.bytes.items ++ leaves_bytes (map leaf_entry (drop l.leaf-index l.leaves)) ≡ l.initial.bytes.items ++ leaves_bytes (map leaf_entry l.leaves)
