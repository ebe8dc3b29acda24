-- Bests one by one.
use Rattle.std.proofs.Common.{◌≡◌, ℕ, zero, suc, ◌+◌, ◌-◌, ◌*◌, ◌<◌, ◌≤◌, List, [], ◌∷◌, ◌++◌, length, get_or, refl, sym, ap, ◌∙◌, add-one, append_assoc, arith}
use Rattle.xn_bytes.specs.Numbers.{number_at}
use Rattle.xn_bytes.specs.HashedTree.{LeafTailHolds, bests_at}
use Rattle.xn_leaf.specs.Tails.{HasTail}

pub count_bests : (count at : ℕ) (bytes : List ℕ) → length (bests_at count at bytes) ≡ count
count_bests zero at bytes = refl
count_bests (suc count) at bytes = ap suc (count_bests count (at + 2) bytes)

pub best_is : (count at k d : ℕ) (bytes : List ℕ) → k < count → get_or (bests_at count at bytes) k d ≡ number_at 2 (at + 2 * k) bytes
best_is zero at k d bytes h = absurd (omega arith)
best_is (suc count) at zero d bytes h = let same : at + 2 * 0 ≡ at = omega arith in rw same refl
best_is (suc count) at (suc k) d bytes h =
    let same : at + 2 + 2 * k ≡ at + 2 * suc k = omega arith in
    best_is count (at + 2) k d bytes (omega arith) ∙ rw same refl

-- the bests from an index on, of so many
abbrev pub bests_from : ℕ → ℕ → ℕ → List ℕ → List ℕ
bests_from index count at bytes = bests_at (count - index) (at + 2 * index) bytes

bests_step : (left rest at next : ℕ) (bytes : List ℕ) → left ≡ rest + 1 → next ≡ at + 2 → bests_at left at bytes ≡ number_at 2 at bytes ∷ bests_at rest next bytes
bests_step left rest at next bytes e n = rw (n, e, add-one) refl

pub best_from : (index count at : ℕ) (bytes : List ℕ) → index < count → bests_from index count at bytes ≡ number_at 2 (at + 2 * index) bytes ∷ bests_from (index + 1) count at bytes
best_from index count at bytes below = bests_step (count - index) (count - (index + 1)) (at + 2 * index) (at + 2 * (index + 1)) bytes (omega arith) (omega arith)

pub none_from : (index count at : ℕ) (bytes : List ℕ) → count ≤ index → bests_from index count at bytes ≡ []
none_from index count at bytes past = let none : count - index ≡ 0 = omega arith in ap (λ (n : ℕ). bests_at n (at + 2 * index) bytes) none

pub all_from : (count at : ℕ) (bytes : List ℕ) → bests_from 0 count at bytes ≡ bests_at count at bytes
all_from count at bytes = let all : count - 0 ≡ count = omega arith in let same : at + 2 * 0 ≡ at = omega arith in rw (all, same) refl

-- one more that was read
pub best_pushed : (all items new : List ℕ) (index count at best : ℕ) (bytes : List ℕ) → index < count → best ≡ number_at 2 (at + 2 * index) bytes → new ≡ items ++ best ∷ []
    → items ++ bests_from index count at bytes ≡ all → new ++ bests_from (index + 1) count at bytes ≡ all
best_pushed all items new index count at best bytes below is grown so_far =
    let rest = bests_from (index + 1) count at bytes in
    ap (λ (xs : List ℕ). xs ++ rest) grown
    ∙ append_assoc items (best ∷ []) rest
    ∙ ap (λ (one : ℕ). items ++ (one ∷ rest)) is
    ∙ sym (ap (λ (xs : List ℕ). items ++ xs) (best_from index count at bytes below)) ∙ so_far

-- ---- the single leaf

pub holds_tail : (bytes bests : List ℕ) (count : ℕ) → length bytes ≡ 4096 → HasTail bytes → count ≡ number_at 4 4092 bytes → bests ≡ bests_at count (4092 - 2 * count) bytes → LeafTailHolds bytes bests
holds_tail bytes bests count whole tail counted are =
    let many : length bests ≡ count = ap length are ∙ count_bests count (4092 - 2 * count) bytes in
    record {
      whole = whole;
      is_magic = tail.is_magic;
      checksum = tail.checksum;
      counted = sym counted ∙ sym many;
      apart = omega (arith, tail.apart);
      are = are ∙ ap (λ (n : ℕ). bests_at n (4092 - 2 * n) bytes) (sym many);
    }
