use Rattle.std.proofs.Common.{◌≡◌, ℕ, ◌+◌, ◌<◌}
use Rattle.xn_bytes.specs.HashedTree.{best_at}
use Rattle.xn_dir.specs.Bests.{AreRising, noted_for}
use Rattle.xn_dir.proofs.bests.has_noted.Given as goal

abbrev pub invariant-loop-slot : goal.invariant-loop-slot
invariant-loop-slot l = AreRising l.noted → (slot : ℕ) → slot < l.slot → best_at l.free.bests slot ≡ noted_for (l.first + slot) l.noted
