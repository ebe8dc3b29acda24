use Rattle.std.proofs.Common.{◌≡◌, ◌++◌}
use Rattle.xn_bytes.specs.HashedTree.{bests_at}
use Rattle.xn_leaf.proofs.BestsRead.{bests_from}
use Rattle.xn_leaf.proofs.bests.bests_in.Given as goal

abbrev pub invariant-loop-index : goal.invariant-loop-index
invariant-loop-index l = l.bests.items ++ bests_from l.index l.count l.at l.block ≡ bests_at l.count l.at l.block
