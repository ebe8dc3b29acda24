use Rattle.std.proofs.Common.{drop}
use Rattle.xn_bytes.specs.HashedTree.{Child}
use Rattle.xn_datree.proofs.Rising.{GoesOn}
use Rattle.xn_datree.proofs.node.is_sorted.Given as goal

abbrev pub invariant-loop-child : goal.invariant-loop-child
invariant-loop-child l = GoesOn (λ (child : Child). child.hash) l.children l.least (drop l.child-index l.children)
