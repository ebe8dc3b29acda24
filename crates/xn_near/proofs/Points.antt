-- Where what rises by a number parts: in front of a place and from it on.
use Rattle.std.proofs.Common.{◌≡◌, ℕ, ◌-◌, ◌<◌, ◌≤◌, List, length, get_or, arith, ltb, ltb-true, ltb-false, true, false}
use Rattle.std.specs.List.Sorted.{IsNonDecreasingBy, IsPartitionPoint}

module _ {X : Type 0} (n : X → ℕ) (xs : List X) (t at : ℕ) (rise : IsNonDecreasingBy n xs) where
  -- what stands in front of one with a lesser number has a lesser one
  pub in_front : ((d : X) → n (get_or xs (at - 1) d) < t) → at ≤ length xs → (k : ℕ) (d : X) → k < at → n (get_or xs k d) < t
  in_front less within k d before =
      let here : n (get_or xs (at - 1) d) < t = less d in
      let rest : n (get_or xs k d) ≤ n (get_or xs (at - 1) d) = rise k (at - 1) d (omega arith) (omega arith) in
      omega (arith, here, rest)

  -- what stands behind one with no lesser number has none
  pub from_there : ((d : X) → t ≤ n (get_or xs at d)) → (k : ℕ) (d : X) → at ≤ k → k < length xs → t ≤ n (get_or xs k d)
  from_there more k d behind within =
      let here : t ≤ n (get_or xs at d) = more d in
      let rest : n (get_or xs at d) ≤ n (get_or xs k d) = rise at k d behind within in
      omega (arith, here, rest)

  pub from_above : ((d : X) → t < n (get_or xs at d)) → (k : ℕ) (d : X) → at ≤ k → k < length xs → t < n (get_or xs k d)
  from_above more k d behind within =
      let here : t < n (get_or xs at d) = more d in
      let rest : n (get_or xs at d) ≤ n (get_or xs k d) = rise at k d behind within in
      omega (arith, here, rest)

-- a search by a test ends where the numbers part
pub parts_below : {X : Type 0} (n : X → ℕ) (xs : List X) (t at : ℕ) → IsPartitionPoint (λ x. ltb (n x) t ≡ true) (λ x. ltb (n x) t ≡ false) xs at → IsPartitionPoint (λ x. n x < t) (λ x. t ≤ n x) xs at
parts_below n xs t at point = (λ k d low below. ltb-true _ _ (point.0 k d low below), λ k d low below. ltb-false _ _ (point.1 k d low below))
