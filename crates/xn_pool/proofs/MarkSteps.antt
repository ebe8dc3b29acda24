-- A mark that is set where it wasn't, or taken away, on the way from a word up to the first.
use Rattle.std.proofs.Common.{◌≡◌, ◌≢◌, ◌⊎◌, inl, inr, ℕ, ◌+◌, ◌-◌, ◌*◌, ◌/◌, ◌<◌, ◌≤◌, List, length, get_or, refl, sym, ap, ◌∙◌, arith}
use Rattle.std.proofs.lemmas.Bool.{cases_eq}
use Rattle.xn_pool.specs.Marks.{bit_of, IsMarkedAt, AreMarkedBut, AreTrueBut, SameFrom}
use Rattle.xn_pool.proofs.BitsOfWords.{has_bit}

-- The words from one on are the same as long as a word of the way is above them.
same_below : (old new next : List ℕ) (word first : ℕ) → 0 < word → word < length new → length new ≡ length old → length old ≤ 64 * first + 1
    → IsMarkedAt new next (word - 1) 0 ⊎ IsMarkedAt new next (word - 1) 1 → SameFrom first old new → SameFrom first old next
same_below old new next word first some within long few (inl at) same = record {
  long = at.long ∙ same.long;
  same = λ w high. at.words w (λ e. omega arith) ∙ same.same w high;
}
same_below old new next word first some within long few (inr at) same = record {
  long = at.long ∙ same.long;
  same = λ w high. at.words w (λ e. omega arith) ∙ same.same w high;
}

-- ---- marks that are set

-- On the way up: this word has a bit, and every word but it has its mark if it has a bit. What isn't on the way stays.
pub record IsRaising (old new : List ℕ) (word : ℕ) : Type 0 where
  pub long : length new ≡ length old
  pub within : word < length new
  pub some : get_or new word 0 ≢ 0
  pub marked : AreMarkedBut word new
  pub told : (limit : ℕ) → length old ≤ limit + 1 → AreTrueBut 0 limit old → AreTrueBut 0 limit new
  pub same : (first : ℕ) → length old ≤ 64 * first + 1 → SameFrom first old new

pub raising : (words : List ℕ) (word : ℕ) → word < length words → get_or words word 0 ≢ 0 → AreMarkedBut word words → IsRaising words words word
raising words word within some marked = record {
  long = refl;
  within = within;
  some = some;
  marked = marked;
  told = λ limit few told. told;
  same = λ first few. record { long = refl; same = λ w high. refl };
}

pub raised_one : (old new next : List ℕ) (word : ℕ) → 0 < word → IsRaising old new word → IsMarkedAt new next (word - 1) 1 → IsRaising old next ((word - 1) / 64)
raised_one old new next word some is at =
    let above : (word - 1) / 64 < word = omega arith in
    let has : get_or next ((word - 1) / 64) 0 ≢ 0 = has_bit next (word - 1) at.at in
    let its : get_or next word 0 ≡ get_or new word 0 = at.words word (λ e. omega arith) in
    record {
      long = at.long ∙ is.long;
      within = omega (arith, at.long, is.within);
      some = has;
      marked = record {
        marked = λ p apart full.
            let kept : get_or next (p + 1) 0 ≡ get_or new (p + 1) 0 = at.words (p + 1) apart in
            elim (cases_eq p (word - 1)) [
              | inl here ↦ ap (bit_of next) here ∙ at.at
              | inr other ↦ at.others p other ∙ is.marked.marked p (λ e. other (omega arith)) (λ none. full (kept ∙ none))
            ];
      };
      told = λ limit few told. record {
        told = λ p first low set none. elim (cases_eq p (word - 1)) [
          | inl here ↦
              let same_word : p + 1 ≡ word = omega arith in
              is.some (sym its ∙ ap (λ w. get_or next w 0) (sym same_word) ∙ none)
          | inr other ↦ elim (cases_eq (p + 1) ((word - 1) / 64)) [
            | inl up ↦ has (ap (λ w. get_or next w 0) (sym up) ∙ none)
            | inr apart ↦ (is.told limit few told).told p first low (sym (at.others p other) ∙ set) (sym (at.words (p + 1) apart) ∙ none)
          ]
        ];
      };
      same = λ first few. same_below old new next word first some is.within is.long few (inr at) (is.same first few);
    }

-- at the first word, and at one that has its mark
pub all_raised : (old new : List ℕ) (word : ℕ) → IsRaising old new word → (0 < word → bit_of new (word - 1) ≡ 1) → AreMarkedBut 0 new
all_raised old new word is there = record {
  marked = λ p first full. elim (cases_eq (p + 1) word) [
    | inl here ↦
        let place : word - 1 ≡ p = omega arith in
        ap (bit_of new) (sym place) ∙ there (omega arith)
    | inr apart ↦ is.marked.marked p apart full
  ];
}

-- ---- marks that are taken away

-- On the way up: every word has its mark if it has a bit, and only this one may have a mark without one.
pub record IsLowering (from : ℕ) (old new : List ℕ) (word : ℕ) : Type 0 where
  pub long : length new ≡ length old
  pub within : word < length new
  pub marked : AreMarkedBut 0 new
  pub told : (limit : ℕ) → length old ≤ limit + 1 → AreTrueBut from limit old → AreTrueBut word limit new
  pub same : (first : ℕ) → length old ≤ 64 * first + 1 → SameFrom first old new

pub lowering : (words : List ℕ) (word : ℕ) → word < length words → AreMarkedBut 0 words → IsLowering word words words word
lowering words word within marked = record {
  long = refl;
  within = within;
  marked = marked;
  told = λ limit few told. told;
  same = λ first few. record { long = refl; same = λ w high. refl };
}

pub lowered_one : (from : ℕ) (old new next : List ℕ) (word : ℕ) → 0 < word → get_or new word 0 ≡ 0 → IsLowering from old new word → IsMarkedAt new next (word - 1) 0
    → get_or next ((word - 1) / 64) 0 ≤ get_or new ((word - 1) / 64) 0 → IsLowering from old next ((word - 1) / 64)
lowered_one from old new next word some none is at no_more =
    let above : (word - 1) / 64 < word = omega arith in
    let its : get_or next word 0 ≡ get_or new word 0 = at.words word (λ e. omega arith) in
    record {
      long = at.long ∙ is.long;
      within = omega (arith, at.long, is.within);
      marked = record {
        marked = λ p first full. elim (cases_eq p (word - 1)) [
          | inl here ↦
              let same_word : p + 1 ≡ word = omega arith in
              absurd (full (ap (λ w. get_or next w 0) same_word ∙ its ∙ none))
          | inr other ↦
              let was : get_or new (p + 1) 0 ≢ 0 =
              λ empty. full
              (elim (cases_eq (p + 1) ((word - 1) / 64)) [
                | inl up ↦
                    let up_none : get_or new ((word - 1) / 64) 0 ≡ 0 = ap (λ w. get_or new w 0) (sym up) ∙ empty in
                    let up_now : get_or next ((word - 1) / 64) 0 ≡ 0 = omega arith in
                    ap (λ w. get_or next w 0) up ∙ up_now
                | inr apart ↦ at.words (p + 1) apart ∙ empty
              ])
              in
              at.others p other ∙ is.marked.marked p first was
        ];
      };
      told = λ limit few told. record {
        told = λ p apart low set empty. elim (cases_eq p (word - 1)) [
          | inl here ↦
              let cleared : bit_of next p ≡ 0 = ap (bit_of next) here ∙ at.at in
              omega arith
          | inr other ↦
              (is.told limit few told).told p (λ e. other (omega arith)) low (sym (at.others p other) ∙ set) (sym (at.words (p + 1) apart) ∙ empty)
        ];
      };
      same = λ first few. same_below old new next word first some is.within is.long few (inl at) (is.same first few);
    }

-- at the first word, and at one that has a bit left
pub all_lowered : (from : ℕ) (old new : List ℕ) (word : ℕ) → IsLowering from old new word → (0 < word → get_or new word 0 ≢ 0) → (limit : ℕ) → length old ≤ limit + 1 → AreTrueBut from limit old → AreTrueBut 0 limit new
all_lowered from old new word is left limit few told = record {
  told = λ p first low set empty. elim (cases_eq (p + 1) word) [
    | inl here ↦ left (omega arith) (ap (λ w. get_or new w 0) (sym here) ∙ empty)
    | inr apart ↦ (is.told limit few told).told p apart low set empty
  ];
}
