-- What the calls of a pool do to its blocks and flags.
use Rattle.std.proofs.Common.{◌≡◌, ℕ, ◌+◌, ◌-◌, ◌^◌, ◌≤◌, Bool, true, false, List, length, set, replicate, Option, Some, None, sym, ap, ◌∙◌, arith, length-set}
use Rattle.std.specs.Prelude.{Contains, slice_get, ◌↔◌, IsTrue, MatchOption, is_some}
use Rattle.std.proofs.lemmas.List.{length-replicate}
use Rattle.xn_pool.specs.Blocks.{AreRising}
use Rattle.xn_pool.specs.Pools.{AreFlagged, selected}
use Rattle.xn_pool.proofs.FlaggedBlocks.{has_at, same_place, in_selected, from_selected, all_selected, length-selected, one_less, one_more}

-- a block whose flag is false isn't free, nor is one that isn't of the pool
pub not_selected : (blocks : List ℕ) (flags : List Bool) (i x : ℕ) → AreRising 0 blocks → slice_get blocks i ≡ Some x → slice_get flags i ≡ Some false → Contains (selected blocks flags) x → ⊥
not_selected blocks flags i x rise here clear has =
    let at = from_selected blocks flags x has in
    let same : i ≡ at.0 = same_place 0 blocks i at.0 x rise here at.1 in
    let flag : slice_get flags i ≡ Some true = ap (slice_get flags) same ∙ at.2 in
    absurd (cc)

pub none_selected : (blocks : List ℕ) (flags : List Bool) (x : ℕ) → (Contains blocks x → ⊥) → Contains (selected blocks flags) x → ⊥
none_selected blocks flags x none has = let at = from_selected blocks flags x has in none (has_at blocks at.0 x at.1)

-- the answer of a search for a free block
pub free_told : (o : Option ℕ) (test : Bool) (blocks : List ℕ) (flags : List Bool) (x : ℕ) → test ≡ is_some o
    → MatchOption o (Contains (selected blocks flags) x → ⊥) (λ position. (slice_get blocks position ≡ Some x) × (slice_get flags position ≡ Some true))
    → IsTrue test ↔ Contains (selected blocks flags) x
free_told None test blocks flags x is none = (λ yes. absurd (cc), λ has. absurd (none has))
free_told (Some position) test blocks flags x is there = (λ yes. in_selected blocks flags position x there.0 there.1, λ has. is)

-- ---- flags

pub all_flagged : (blocks : List ℕ) (flags : List Bool) (count : ℕ) → AreRising 0 blocks → count ≤ 2 ^ 56 → count ≡ length blocks → flags ≡ replicate count true → AreFlagged blocks flags count × (selected blocks flags ≡ blocks)
all_flagged blocks flags count rise few counted full =
    let all : selected blocks flags ≡ blocks = ap (selected blocks) full ∙ ap (λ n. selected blocks (replicate n true)) counted ∙ all_selected blocks in (
      record {
        long = ap length full ∙ length-replicate count true ∙ counted;
        few = omega arith;
        rising = rise;
        count = counted ∙ ap length (sym all);
      },
      all,
    )

pub flag_cleared : (blocks : List ℕ) (flags : List Bool) (free i x : ℕ) → AreFlagged blocks flags free → slice_get blocks i ≡ Some x → slice_get flags i ≡ Some true → (1 ≤ free) × AreFlagged blocks (set flags i false) (free - 1)
flag_cleared blocks flags free i x are here there =
    let less : length (selected blocks flags) ≡ length (selected blocks (set flags i false)) + 1 = one_less blocks flags i x here there in (
      omega (arith, are.count),
      record {
        long = length-set flags i false ∙ are.long;
        few = are.few;
        rising = are.rising;
        count = omega (arith, are.count);
      },
    )

pub flag_set : (blocks : List ℕ) (flags : List Bool) (free i x : ℕ) → AreFlagged blocks flags free → slice_get blocks i ≡ Some x → slice_get flags i ≡ Some false → (free ≤ 2 ^ 56) × AreFlagged blocks (set flags i true) (free + 1)
flag_set blocks flags free i x are here there =
    let more : length (selected blocks (set flags i true)) ≡ length (selected blocks flags) + 1 = one_more blocks flags i x here there in (
      omega (arith, are.count, are.few, length-selected blocks flags),
      record {
        long = length-set flags i true ∙ are.long;
        few = are.few;
        rising = are.rising;
        count = omega (arith, are.count);
      },
    )
