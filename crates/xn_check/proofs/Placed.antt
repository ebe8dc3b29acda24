-- The inodes of a chunk, one place behind the other.
use Rattle.std.proofs.Common.{◌≡◌, ℕ, ◌+◌, ◌-◌, ◌<◌, false, sym, subst, arith, inl, inr}
use Rattle.std.proofs.lemmas.Bool.{cases_lt}
use Rattle.xn_bytes.specs.Superblock.{Geometry}
use Rattle.xn_meaning.specs.Manifests.{has_bit}
use Rattle.xn_pool.specs.Pools.{PoolState}
use Rattle.xn_check.specs.Places.{IsPlaced, ChunkIsPlaced}

-- those at the places below one that are in use are placed
abbrev pub ArePlacedBelow : Geometry → PoolState → ℕ → ℕ → ℕ → Type 0
ArePlacedBelow g pool start mask k = (j : ℕ) → j < k → has_bit mask j ≡ false → IsPlaced g pool (start + j)

pub none_below : (g : Geometry) (pool : PoolState) (start mask : ℕ) → ArePlacedBelow g pool start mask 0
none_below g pool start mask = λ j below in_use. absurd (omega (arith, below))

-- one more is placed, if it is in use
pub one_more : (g : Geometry) (pool : PoolState) (start mask k : ℕ) → ArePlacedBelow g pool start mask k → (has_bit mask k ≡ false → IsPlaced g pool (start + k)) → ArePlacedBelow g pool start mask (k + 1)
one_more g pool start mask k before here = λ j below in_use. elim (cases_lt j k) [
  | inl lt ↦ before j lt in_use
  | inr le ↦ let same : j ≡ k = omega (arith, below, le) in subst (λ (i : ℕ). has_bit mask i ≡ false → IsPlaced g pool (start + i)) (sym same) here in_use
]

-- all of them are
pub all_placed : (g : Geometry) (pool : PoolState) (chunk : ℕ × ℕ) → ArePlacedBelow g pool chunk.0 chunk.1 64 → ChunkIsPlaced g pool chunk
all_placed g pool chunk placed = λ ino lists.
    let from = lists.from in
    let below = lists.below in
    let back : chunk.0 + (ino - chunk.0) ≡ ino = omega (arith, from) in
    subst (IsPlaced g pool) back (placed (ino - chunk.0) (omega (arith, from, below)) lists.in_use)

-- one that is listed and not placed stands against it
pub one_out : (g : Geometry) (pool : PoolState) (chunk : ℕ × ℕ) (k : ℕ) → k < 64 → has_bit chunk.1 k ≡ false → (IsPlaced g pool (chunk.0 + k) → ⊥) → ChunkIsPlaced g pool chunk → ⊥
one_out g pool chunk k small in_use out placed =
    let back : chunk.0 + k - chunk.0 ≡ k = omega arith in
    out (placed (chunk.0 + k) (record { from = omega arith; below = omega (arith, small); in_use = subst (λ (i : ℕ). has_bit chunk.1 i ≡ false) (sym back) in_use }))
