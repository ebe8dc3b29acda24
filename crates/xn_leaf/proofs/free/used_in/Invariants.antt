use Rattle.std.proofs.Common.{◌≡◌, ◌+◌, ◌≤◌}
use Rattle.xn_bytes.specs.HashedTree.{bests_at, used_among}
use Rattle.xn_leaf.proofs.BestsRead.{bests_from}
use Rattle.xn_leaf.proofs.free.used_in.Given as goal

abbrev pub invariant-loop-slot : goal.invariant-loop-slot
invariant-loop-slot l = record {
  few : l.used ≤ l.slot;
  so_far : l.used + used_among (bests_from l.slot l.valid 64 l.bytes) ≡ used_among (bests_at l.valid 64 l.bytes);
}
