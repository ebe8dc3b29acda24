-- A leaf whose first bits are set, and the tree that is filled leaf by leaf.
use Rattle.std.proofs.Common.{◌≡◌, ◌≢◌, ◌⊎◌, inl, inr, ℕ, ◌+◌, ◌-◌, ◌*◌, ◌/◌, ◌%◌, ◌^◌, ◌<◌, ◌≤◌, true, List, length, get_or, set, replicate, sym, ap, subst, ◌∙◌, arith, min, length-set, get_or-set_same, get_or-set_other}
use Rattle.std.specs.Int.{bit_at}
use Rattle.std.proofs.lemmas.Bool.{cases_eq, cases_lt, eq-eqb}
use Rattle.std.proofs.lemmas.List.{get_or_past, same_lists, length-replicate, get_or-replicate}
use Rattle.std.proofs.lemmas.Nat.Bits.{ones_shr, bit_at_ones, bit_at_ones_above}
use Rattle.xn_pool.specs.Marks.{bit_of, AreMarkedBut, AreTrueBut, AreSummed, SameFrom, IsLeafFilled}
use Rattle.xn_pool.specs.Trees.{level_below, IsTree, flags_of}
use Rattle.xn_pool.proofs.BitsOfWords.{has_bit, no_bit, same_bit}
use Rattle.xn_pool.proofs.TreeFlags.{length-flags_of, get_or-flags_of}

-- so many ones
abbrev pub ones : ℕ → ℕ
ones bits = (2 ^ 64 - 1) / 2 ^ (64 - bits)

ones_is : (bits : ℕ) → bits ≤ 64 → ones bits ≡ 2 ^ bits - 1
ones_is bits few =
    let width : 64 - (64 - bits) ≡ bits = omega arith in
    ones_shr 64 (64 - bits) (omega arith) ∙ ap (λ n. 2 ^ n - 1) width

-- the bits of a word that was put
put_bit : (words : List ℕ) (word value p : ℕ) → word < length words → p / 64 ≡ word → bit_of (set words word value) p ≡ bit_at value (p % 64)
unfolding bit_of
put_bit words word value p within here =
    ap (λ w. bit_at (get_or (set words word value) w 0) (p % 64)) here
    ∙ ap (λ n. bit_at n (p % 64)) (get_or-set_same words word value 0 within)

put_ones : (words : List ℕ) (word bits p : ℕ) → word < length words → bits ≤ 64 → 64 * word ≤ p → p < 64 * word + bits → bit_of (set words word (ones bits)) p ≡ 1
put_ones words word bits p within few high low =
    put_bit words word (ones bits) p within (omega arith)
    ∙ ap (λ n. bit_at n (p % 64)) (ones_is bits few)
    ∙ bit_at_ones bits (p % 64) (omega arith)

put_zeros : (words : List ℕ) (word bits p : ℕ) → word < length words → bits ≤ 64 → 64 * word + bits ≤ p → p < 64 * word + 64 → bit_of (set words word (ones bits)) p ≡ 0
put_zeros words word bits p within few high low =
    put_bit words word (ones bits) p within (omega arith)
    ∙ ap (λ n. bit_at n (p % 64)) (ones_is bits few)
    ∙ bit_at_ones_above bits (p % 64) (omega arith)

put_some : (words : List ℕ) (word bits : ℕ) → word < length words → 0 < bits → bits ≤ 64 → get_or (set words word (ones bits)) word 0 ≢ 0
put_some words word bits within some few =
    let here : 64 * word / 64 ≡ word = omega arith in
    subst (λ w. get_or (set words word (ones bits)) w 0 ≢ 0) here (has_bit (set words word (ones bits)) (64 * word) (put_ones words word bits (64 * word) within few (omega arith) (omega arith)))

other_bit : (words : List ℕ) (word value p : ℕ) → p / 64 ≢ word → bit_of (set words word value) p ≡ bit_of words p
other_bit words word value p apart = same_bit words (set words word value) p (get_or-set_other words word (p / 64) value 0 apart)

pub marked_after_fill : (words : List ℕ) (word value : ℕ) → length words ≤ 64 * word + 1 → AreMarkedBut 0 words → AreMarkedBut word (set words word value)
marked_after_fill words word value leaf marked = record {
  marked = λ p apart full.
      let was : get_or words (p + 1) 0 ≢ 0 = λ none. full (get_or-set_other words word (p + 1) value 0 apart ∙ none) in
      elim (cases_lt (p + 1) (length words)) [
        | inl within ↦ other_bit words word value p (λ e. omega arith) ∙ marked.marked p (λ e. omega arith) was
        | inr past ↦ absurd (was (get_or_past words (p + 1) 0 past))
      ];
}

told_after_fill : (words : List ℕ) (word bits first : ℕ) → word < length words → 0 < bits → bits ≤ 64 → first ≤ word → AreTrueBut 0 (64 * first) words → AreTrueBut 0 (64 * first) (set words word (ones bits))
told_after_fill words word bits first within some few leaf told = record {
  told = λ p apart low set_there none. elim (cases_eq (p + 1) word) [
    | inl up ↦ put_some words word bits within some few (ap (λ w. get_or (set words word (ones bits)) w 0) (sym up) ∙ none)
    | inr other ↦
        told.told p apart low (sym (other_bit words word (ones bits) p (λ e. omega arith)) ∙ set_there)
        (sym (get_or-set_other words word (p + 1) (ones bits) 0 other) ∙ none)
  ];
}

pub leaf_filled : (words new : List ℕ) (word bits : ℕ) → word < length words → 0 < bits → bits ≤ 64 → AreMarkedBut 0 new
    → ((limit : ℕ) → length (set words word (ones bits)) ≤ limit + 1 → AreTrueBut 0 limit (set words word (ones bits)) → AreTrueBut 0 limit new)
    → ((first : ℕ) → length (set words word (ones bits)) ≤ 64 * first + 1 → SameFrom first (set words word (ones bits)) new)
    → (first : ℕ) → first ≤ word → AreSummed first words → IsLeafFilled first words new word bits
leaf_filled words new word bits within some few marked told same first leaf summed =
    let mid : List ℕ = set words word (ones bits) in
    let long : length mid ≡ length words = length-set words word (ones bits) in
    let stays : SameFrom first mid new = same first (omega (arith, long, summed.few)) in
    let bit_stays : (p : ℕ) → 64 * first ≤ p → bit_of new p ≡ bit_of mid p = λ p high. same_bit mid new p (stays.same (p / 64) (omega arith)) in
    record {
      long = stays.long ∙ long;
      summed = record {
        few = omega (arith, stays.long, long, summed.few);
        marked = marked;
        told = told (64 * first) (omega (arith, long, summed.few)) (told_after_fill words word bits first within some few leaf summed.told);
      };
      ones = λ p high low. bit_stays p (omega arith) ∙ put_ones words word bits p within few high low;
      zeros = λ p high low. bit_stays p (omega arith) ∙ put_zeros words word bits p within few high low;
      others = λ p high apart. bit_stays p high ∙ other_bit words word (ones bits) p apart;
    }

-- ---- leaf by leaf

-- so many leaves have their bits
pub record AreFilled (words : List ℕ) (first count leaves : ℕ) : Type 0 where
  pub long : length words ≡ first + (count + 63) / 64
  pub summed : AreSummed first words
  pub ones : (p : ℕ) → 64 * first ≤ p → p < 64 * first + count → p < 64 * (first + leaves) → bit_of words p ≡ 1
  pub behind : (p : ℕ) → 64 * (first + leaves) ≤ p → bit_of words p ≡ 0
  pub none : (p : ℕ) → 64 * first + count ≤ p → bit_of words p ≡ 0

-- so many words that are 0
abbrev pub zeros : ℕ → List ℕ
zeros n = replicate n 0

zero_word : (n w : ℕ) → get_or (zeros n) w 0 ≡ 0
zero_word n w = elim (cases_lt w n) [
  | inl low ↦ get_or-replicate n w 0 0 low
  | inr high ↦ get_or_past (zeros n) w 0 (omega (arith, length-replicate {A = ℕ} n 0))
]

pub none_filled : (words : List ℕ) (n first count : ℕ) → words ≡ zeros n → n ≡ first + (count + 63) / 64 → count ≤ 64 * (63 * first + 1) → AreFilled words first count 0
none_filled words n first count all size room =
    let none : (p : ℕ) → bit_of words p ≡ 0 = λ p. no_bit words p (ap (λ (ws : List ℕ). get_or ws (p / 64) 0) all ∙ zero_word n (p / 64)) in
    let long : length words ≡ n = ap length all ∙ length-replicate n 0 in
    record {
      long = long ∙ size;
      summed = record {
        few = omega arith;
        marked = record { marked = λ p apart full. absurd (full (ap (λ (ws : List ℕ). get_or ws (p + 1) 0) all ∙ zero_word n (p + 1))) };
        told = record { told = λ p apart low set. let clear : bit_of words p ≡ 0 = none p in absurd (omega arith) };
      };
      ones = λ p high low before. absurd (omega arith);
      behind = λ p high. none p;
      none = λ p high. none p;
    }

pub one_more_filled : (words new : List ℕ) (first count leaf bits : ℕ) → AreFilled words first count leaf → 64 * leaf < count → bits ≡ min (count - 64 * leaf) 64 → IsLeafFilled first words new (first + leaf) bits
    → AreFilled new first count (leaf + 1)
one_more_filled words new first count leaf bits was low size is =
    let some : (64 * leaf + bits ≤ count) × (bits ≤ 64) × ((64 * leaf + bits ≡ count) ⊎ (bits ≡ 64)) =
    elim (cases_lt (count - 64 * leaf) 64) [
      | inl last ↦ (omega arith, omega arith, inl (omega arith))
      | inr more ↦ (omega arith, omega arith, inr (omega arith))
    ] in
    let word : ℕ = first + leaf in
    record {
      long = is.long ∙ was.long;
      summed = is.summed;
      ones = λ p high within before. elim (cases_eq (p / 64) word) [
        | inl here ↦ elim (some.2) [
          | inl last ↦ is.ones p (omega arith) (omega arith)
          | inr whole ↦ is.ones p (omega arith) (omega arith)
        ]
        | inr other ↦ is.others p high other ∙ was.ones p high within (omega arith)
      ];
      behind = λ p high. is.others p (omega arith) (λ e. omega arith) ∙ was.behind p (omega arith);
      none = λ p high. elim (cases_eq (p / 64) word) [
        | inl here ↦ is.zeros p (omega (arith, some.0)) (omega arith)
        | inr other ↦ is.others p (omega arith) other ∙ was.none p high
      ];
    }

pub filled_tree : (words : List ℕ) (first count leaves : ℕ) → AreFilled words first count leaves → (levels : ℕ) × (first ≡ level_below levels 0) → 63 * first ≤ count → count ≤ 2 ^ 56 → IsTree words first count
filled_tree words first count leaves is level small below = record { level = level; long = is.long; summed = is.summed; none = is.none; small = small; below = below }

pub filled_flags : (words : List ℕ) (first count leaves : ℕ) → AreFilled words first count leaves → count ≤ 64 * leaves → flags_of words first count ≡ replicate count true
filled_flags words first count leaves is all =
    same_lists (flags_of words first count) (replicate count true)
    (length-flags_of words first count ∙ sym (length-replicate count true))
    (λ k d h.
    let low : k < count = omega (arith, length-flags_of words first count) in
    get_or-flags_of words first count k d low
    ∙ eq-eqb _ _ (is.ones (64 * first + k) (omega arith) (omega arith) (omega arith))
    ∙ sym (get_or-replicate count k true d low))
