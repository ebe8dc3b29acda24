-- The bits of words of 64 bits by their places, counted through all of the words; and the marks of words: the bit at place
-- `p` is the mark of word `p + 1`.
use Rattle.std.specs.Prelude.{◌≡◌, ◌≢◌, ℕ, ◌+◌, ◌*◌, ◌/◌, ◌%◌, ◌<◌, ◌≤◌, List, length, slice_index}
use Rattle.std.specs.Int.{bit_at}

-- the bit at a place, 0 behind the words
unfoldable pub bit_of : List ℕ → ℕ → ℕ
bit_of words place = bit_at (slice_index words (place / 64)) (place % 64)

-- only the bit at one place may change, and is then this
pub record IsMarkedAt (old new : List ℕ) (place bit : ℕ) : Type 0 where
  pub long : length new ≡ length old
  pub at : bit_of new place ≡ bit
  pub others : (p : ℕ) → p ≢ place → bit_of new p ≡ bit_of old p
  pub words : (w : ℕ) → w ≢ place / 64 → slice_index new w ≡ slice_index old w

-- each word that isn't 0 has its mark, but the first one, which has no mark, and maybe one more
pub record AreMarkedBut (but : ℕ) (words : List ℕ) : Type 0 where
  pub marked : (p : ℕ) → p + 1 ≢ but → slice_index words (p + 1) ≢ 0 → bit_of words p ≡ 1

-- each mark below a place is that of a word that isn't 0, but maybe that of one word
pub record AreTrueBut (but limit : ℕ) (words : List ℕ) : Type 0 where
  pub told : (p : ℕ) → p + 1 ≢ but → p < limit → bit_of words p ≡ 1 → slice_index words (p + 1) ≢ 0

-- the words from one on are the same
pub record SameFrom (first : ℕ) (old new : List ℕ) : Type 0 where
  pub long : length new ≡ length old
  pub same : (w : ℕ) → first ≤ w → slice_index new w ≡ slice_index old w

-- The words are a tree whose leaves start at a word: above them each word has a mark, which says whether it has a bit.
pub record AreSummed (first_leaf : ℕ) (words : List ℕ) : Type 0 where
  pub few : length words ≤ 64 * first_leaf + 1
  pub marked : AreMarkedBut 0 words
  pub told : AreTrueBut 0 (64 * first_leaf) words

-- a bit of a leaf is then this, and all others of the leaves stay
pub record IsLeafChanged (first_leaf : ℕ) (old new : List ℕ) (place bit : ℕ) : Type 0 where
  pub long : length new ≡ length old
  pub summed : AreSummed first_leaf new
  pub at : bit_of new place ≡ bit
  pub others : (p : ℕ) → 64 * first_leaf ≤ p → p ≢ place → bit_of new p ≡ bit_of old p

-- a word of the leaves then has its first bits set, so many, and no other; all others of the leaves stay
pub record IsLeafFilled (first_leaf : ℕ) (old new : List ℕ) (word bits : ℕ) : Type 0 where
  pub long : length new ≡ length old
  pub summed : AreSummed first_leaf new
  pub ones : (p : ℕ) → 64 * word ≤ p → p < 64 * word + bits → bit_of new p ≡ 1
  pub zeros : (p : ℕ) → 64 * word + bits ≤ p → p < 64 * word + 64 → bit_of new p ≡ 0
  pub others : (p : ℕ) → 64 * first_leaf ≤ p → p / 64 ≢ word → bit_of new p ≡ bit_of old p

-- the first place of a word that has a bit
pub record IsFirstOf (words : List ℕ) (word place : ℕ) : Type 0 where
  pub from : 64 * word ≤ place
  pub below : place < 64 * word + 64
  pub there : bit_of words place ≡ 1
  pub first : (p : ℕ) → 64 * word ≤ p → p < place → bit_of words p ≡ 0
