-- Where a search among numbers ends.
use Rattle.std.proofs.Common.{◌≡◌, ℕ, ◌<◌, ◌≤◌, true, false, List, ltb, ltb-true, ltb-false}
use Rattle.std.specs.List.Sorted.{IsPartitionPoint}

-- it ends at a point that splits the numbers by what it says
pub point_below : (numbers : List ℕ) (bound at : ℕ) → IsPartitionPoint (λ (n : ℕ). ltb n bound ≡ true) (λ (n : ℕ). ltb n bound ≡ false) numbers at → IsPartitionPoint (λ (n : ℕ). n < bound) (λ (n : ℕ). bound ≤ n) numbers at
point_below numbers bound at point = (λ k d low below. ltb-true _ _ (point.0 k d low below), λ k d low below. ltb-false _ _ (point.1 k d low below))
