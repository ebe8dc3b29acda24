-- Leaf entries side by side.
use Rattle.std.proofs.Common.{◌≡◌, ℕ, zero, suc, ◌+◌, ◌*◌, ◌≤◌, List, [], ◌∷◌, ◌++◌, length, get_or, ◌<◌, refl, ap, ◌∙◌, add-one, arith}
use Rattle.std.specs.Prelude.{slice_range}
use Rattle.xn_bytes.specs.Numbers.{number_at}
use Rattle.xn_bytes.specs.DataBlock.{LeafEntry, leaf_at, leaves_at}
use Rattle.xn_bytes.proofs.PlacedNumbers.{same_number}

pub leaves_step : (left rest at next : ℕ) (bytes : List ℕ) → left ≡ rest + 1 → next ≡ at + 8 → leaves_at left at bytes ≡ leaf_at at bytes ∷ leaves_at rest next bytes
unfolding leaves_at
leaves_step left rest at next bytes e n = rw (n, e, add-one) refl

pub count_leaves : (count at : ℕ) (bytes : List ℕ) → length (leaves_at count at bytes) ≡ count
unfolding leaves_at
count_leaves zero at bytes = refl
count_leaves (suc count) at bytes = ap suc (count_leaves count (at + 8) bytes)

pub leaf_is : (count at k : ℕ) (bytes : List ℕ) (d : LeafEntry) → k < count → get_or (leaves_at count at bytes) k d ≡ leaf_at (at + 8 * k) bytes
unfolding leaves_at
leaf_is zero at k bytes d h = absurd (omega arith)
leaf_is (suc count) at zero bytes d h = let same : at + 8 * 0 ≡ at = omega arith in rw same refl
leaf_is (suc count) at (suc k) bytes d h =
    let same : at + 8 + 8 * k ≡ at + 8 * suc k = omega arith in
    leaf_is count (at + 8) k bytes d (omega arith) ∙ rw same refl

pub leaves_apart : (first rest at : ℕ) (bytes : List ℕ) → leaves_at (first + rest) at bytes ≡ leaves_at first at bytes ++ leaves_at rest (at + 8 * first) bytes
unfolding leaves_at
leaves_apart zero rest at bytes = let same : at + 8 * 0 ≡ at = omega arith in let none : 0 + rest ≡ rest = omega arith in rw (same, none) refl
leaves_apart (suc first) rest at bytes =
    let more : suc first + rest ≡ suc (first + rest) = omega arith in
    let same : at + 8 + 8 * first ≡ at + 8 * suc first = omega arith in
    rw (more, leaves_apart first rest (at + 8) bytes, same) refl

pub leaves_none : (at : ℕ) (bytes : List ℕ) → leaves_at 0 at bytes ≡ []
unfolding leaves_at
leaves_none at bytes = refl

-- one more behind them
pub leaves_more : (count at : ℕ) (bytes : List ℕ) → leaves_at (count + 1) at bytes ≡ leaves_at count at bytes ++ leaf_at (at + 8 * count) bytes ∷ []
unfolding leaves_at
leaves_more zero at bytes = let same : at + 8 * 0 ≡ at = omega arith in rw same refl
leaves_more (suc count) at bytes =
    let same : at + 8 + 8 * count ≡ at + 8 * suc count = omega arith in
    let more : suc count + 1 ≡ suc (count + 1) = omega arith in
    rw (more, leaves_more count (at + 8) bytes, same) refl

pub same_leaf : (a b : LeafEntry) → a.hash ≡ b.hash → a.address ≡ b.address → a ≡ b
same_leaf a b hash address = ap (λ (h : ℕ). record a { hash = h }) hash ∙ ap (λ (p : ℕ). record { hash = b.hash; address = p }) address

-- where a piece is the same, the leaf entries in it are
pub leaves_same : (count at from to : ℕ) (xs ys : List ℕ) → from ≤ at → at + 8 * count ≤ to → to ≤ length xs → to ≤ length ys → slice_range xs from to ≡ slice_range ys from to → leaves_at count at xs ≡ leaves_at count at ys
unfolding leaves_at
leaves_same zero at from to xs ys low high wx wy same = refl
leaves_same (suc count) at from to xs ys low high wx wy same =
    let hash : number_at 4 at xs ≡ number_at 4 at ys = same_number 4 at from to xs ys low (omega arith) wx wy same in
    let address : number_at 4 (at + 4) xs ≡ number_at 4 (at + 4) ys = same_number 4 (at + 4) from to xs ys (omega arith) (omega arith) wx wy same in
    rw (hash, address, leaves_same count (at + 8) from to xs ys (omega arith) (omega arith) wx wy same) refl
