-- The bits of words: one that is changed, the first one of a word, and what they say of the words.
use Rattle.std.proofs.Common.{◌≡◌, ◌≢◌, inl, inr, ℕ, ◌+◌, ◌-◌, ◌*◌, ◌/◌, ◌%◌, ◌^◌, ◌<◌, List, length, get_or, set, sym, ap, ◌∙◌, arith, bit_and, bit_or, w64, get_or-set_same, get_or-set_other, length-set}
use Rattle.std.specs.Int.{bit_at, trailing_zeros}
use Rattle.std.proofs.lemmas.Bool.{cases_eq}
use Rattle.std.proofs.lemmas.Nat.Bits.{bit_at-zero, bit_at_set_same, bit_at_set_other, bit_at_clear_same, bit_at_clear_other, bit_at-trailing_zeros}
use Rattle.xn_pool.specs.Marks.{bit_of, IsMarkedAt, IsFirstOf}

-- a word is put, which differs from the old one in this bit alone
changed : (words : List ℕ) (place value bit : ℕ) → place / 64 < length words → bit_at value (place % 64) ≡ bit
    → ((i : ℕ) → i < 64 → i ≢ place % 64 → bit_at value i ≡ bit_at (get_or words (place / 64) 0) i)
    → IsMarkedAt words (set words (place / 64) value) place bit
unfolding bit_of
changed words place value bit within here there = record {
  long = length-set words (place / 64) value;
  at = ap (λ n. bit_at n (place % 64)) (get_or-set_same words (place / 64) value 0 within) ∙ here;
  others = λ p apart. elim (cases_eq (p / 64) (place / 64)) [
    | inl same ↦
        ap (λ w. bit_at (get_or (set words (place / 64) value) w 0) (p % 64)) same
        ∙ ap (λ n. bit_at n (p % 64)) (get_or-set_same words (place / 64) value 0 within)
        ∙ there (p % 64) (omega arith) (λ e. apart (omega arith))
        ∙ ap (λ w. bit_at (get_or words w 0) (p % 64)) (sym same)
    | inr other ↦ ap (λ n. bit_at n (p % 64)) (get_or-set_other words (place / 64) (p / 64) value 0 other)
  ];
  words = λ w other. get_or-set_other words (place / 64) w value 0 other;
}

pub set_at : (words : List ℕ) (place : ℕ) → place / 64 < length words → IsMarkedAt words (set words (place / 64) (bit_or (get_or words (place / 64) 0) (1 * 2 ^ (place % 64) % 2 ^ 64))) place 1
set_at words place within =
    changed words place _ 1 within
    (bit_at_set_same w64 (get_or words (place / 64) 0) (place % 64) (omega arith))
    (λ i low apart. bit_at_set_other w64 (get_or words (place / 64) 0) (place % 64) (omega arith) i apart)

pub cleared_at : (words : List ℕ) (place : ℕ) → place / 64 < length words → IsMarkedAt words (set words (place / 64) (bit_and (get_or words (place / 64) 0) (2 ^ 64 - 1 - 1 * 2 ^ (place % 64) % 2 ^ 64))) place 0
cleared_at words place within =
    changed words place _ 0 within
    (bit_at_clear_same w64 (get_or words (place / 64) 0) (place % 64) (omega arith))
    (λ i low apart. bit_at_clear_other w64 (get_or words (place / 64) 0) (place % 64) (omega arith) i low apart)

-- a word that has a bit isn't 0
pub has_bit : (words : List ℕ) (place : ℕ) → bit_of words place ≡ 1 → get_or words (place / 64) 0 ≢ 0
unfolding bit_of
has_bit words place there none =
    let zero_bit : bit_at (get_or words (place / 64) 0) (place % 64) ≡ 0 = ap (λ n. bit_at n (place % 64)) none ∙ bit_at-zero (place % 64) in
    omega arith

-- the bits of a word that is 0
pub no_bit : (words : List ℕ) (place : ℕ) → get_or words (place / 64) 0 ≡ 0 → bit_of words place ≡ 0
unfolding bit_of
no_bit words place none = ap (λ n. bit_at n (place % 64)) none ∙ bit_at-zero (place % 64)

-- the bits of a word that is the same
pub same_bit : (old new : List ℕ) (place : ℕ) → get_or new (place / 64) 0 ≡ get_or old (place / 64) 0 → bit_of new place ≡ bit_of old place
unfolding bit_of
same_bit old new place same = ap (λ n. bit_at n (place % 64)) same

-- where the first bit of a word is
pub first_bit : (words : List ℕ) (word : ℕ) → get_or words word 0 ≢ 0 → get_or words word 0 < 2 ^ 64 → IsFirstOf words word (64 * word + trailing_zeros w64 (get_or words word 0))
unfolding bit_of
first_bit words word some small =
    let found = bit_at-trailing_zeros w64 (get_or words word 0) (omega arith) small in
    let place : ℕ = 64 * word + trailing_zeros w64 (get_or words word 0) in
    let low : trailing_zeros w64 (get_or words word 0) < 64 = found.0 in
    let at_word : place / 64 ≡ word = omega arith in
    let at_bit : place % 64 ≡ trailing_zeros w64 (get_or words word 0) = omega arith in
    record {
      from = omega arith;
      below = omega arith;
      there = ap (λ w. bit_at (get_or words w 0) (place % 64)) at_word ∙ ap (bit_at (get_or words word 0)) at_bit ∙ found.1;
      first = λ p high before.
          let of_word : p / 64 ≡ word = omega arith in
          ap (λ w. bit_at (get_or words w 0) (p % 64)) of_word ∙ found.2 (p % 64) (omega arith);
    }
