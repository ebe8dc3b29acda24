-- Words as a tree: the root is the first, and each level stands behind the one above it, with 64 words for each word of that.
use Rattle.std.specs.Prelude.{◌≡◌, ℕ, zero, suc, ◌+◌, ◌*◌, ◌/◌, ◌^◌, ◌<◌, ◌≤◌, Bool, true, false, ◌==◌, List, length, map, Some, slice_get}
use Rattle.std.specs.List.{range_with_len}
use Rattle.xn_pool.specs.Marks.{bit_of, AreSummed}

-- where the level that is so many levels below another one starts
abbrev pub level_below : ℕ → ℕ → ℕ
level_below zero start = start
level_below (suc levels) start = level_below levels (64 * start + 1)

-- The leaves start a level. Above them each word has a mark, which says whether it has a bit; and no bit stands behind
-- those of so many positions in the leaves.
pub record IsTree (words : List ℕ) (first_leaf count : ℕ) : Type 0 where
  pub level : (levels : ℕ) × (first_leaf ≡ level_below levels 0)
  pub long : length words ≡ first_leaf + (count + 63) / 64
  pub summed : AreSummed first_leaf words
  pub none : (p : ℕ) → 64 * first_leaf + count ≤ p → bit_of words p ≡ 0
  pub small : 63 * first_leaf ≤ count
  pub below : count ≤ 2 ^ 56

-- the flag of a position
abbrev pub flag_of : List ℕ → ℕ → ℕ → Bool
flag_of words first_leaf position = bit_of words (64 * first_leaf + position) == 1

-- the flags of so many positions
abbrev pub flags_of : List ℕ → ℕ → ℕ → List Bool
flags_of words first_leaf count = map (flag_of words first_leaf) (range_with_len 0 count)

-- the first flag that is true
pub record IsFirstTrue (flags : List Bool) (position : ℕ) : Type 0 where
  pub there : slice_get flags position ≡ Some true
  pub first : (p : ℕ) → p < position → slice_get flags p ≡ Some false
