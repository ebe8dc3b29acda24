use Rattle.std.proofs.Common.{◌≡◌, ◌+◌, ◌-◌, ◌*◌, ◌++◌}
use Rattle.xn_bytes.specs.HashedTree.{children_at}
use Rattle.xn_datree.proofs.node.children_in.Given as goal

abbrev pub invariant-loop-index : goal.invariant-loop-index
invariant-loop-index l = l.children.items ++ children_at (l.count - l.index) (64 + 8 * l.index) l.block ≡ children_at l.count 64 l.block
