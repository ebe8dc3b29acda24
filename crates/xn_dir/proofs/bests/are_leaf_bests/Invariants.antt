use Rattle.std.proofs.Common.{◌≡◌, ℕ, ◌<◌}
use Rattle.std.specs.Prelude.{slice_index, unwrap_or}
use Rattle.xn_bytes.specs.HashedTree.{no_best}
use Rattle.xn_dir.specs.Bests.{AreRising, noted_for}
use Rattle.xn_dir.proofs.bests.are_leaf_bests.Given as goal

abbrev pub invariant-loop-number : goal.invariant-loop-number
invariant-loop-number l = AreRising l.noted → (number : ℕ) → number < l.number → slice_index l.bests number ≡ unwrap_or (noted_for number l.noted) no_best
