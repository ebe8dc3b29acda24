-- A bit of a leaf that is changed, and the marks above it that follow it.
use Rattle.std.proofs.Common.{◌≡◌, ◌≢◌, inl, inr, ℕ, ◌+◌, ◌*◌, ◌/◌, ◌≤◌, List, length, get_or, sym, ap, ◌∙◌, arith}
use Rattle.std.proofs.lemmas.List.{get_or_past}
use Rattle.std.proofs.lemmas.Bool.{cases_eq}
use Rattle.xn_pool.specs.Marks.{bit_of, IsMarkedAt, AreMarkedBut, AreTrueBut, AreSummed, SameFrom, IsLeafChanged}
use Rattle.xn_pool.proofs.BitsOfWords.{has_bit, same_bit}

-- what follows where the marks above followed
followed : (old mid new : List ℕ) (first place bit : ℕ) → 64 * first ≤ place → length mid ≡ length old → length old ≤ 64 * first + 1 → SameFrom first mid new → AreMarkedBut 0 new → AreTrueBut 0 (64 * first) new
    → IsMarkedAt old mid place bit → IsLeafChanged first old new place bit
followed old mid new first place bit leaf long few same marked told at =
    let stays : (p : ℕ) → 64 * first ≤ p → bit_of new p ≡ bit_of mid p = λ p high. same_bit mid new p (same.same (p / 64) (omega arith)) in
    record {
      long = same.long ∙ long;
      summed = record { few = omega (arith, same.long); marked = marked; told = told };
      at = stays place leaf ∙ at.at;
      others = λ p high apart. stays p high ∙ at.others p apart;
    }

-- ---- a bit is set

pub some_after : (old mid : List ℕ) (place : ℕ) → IsMarkedAt old mid place 1 → get_or mid (place / 64) 0 ≢ 0
some_after old mid place at = has_bit mid place at.at

pub marked_after_set : (old mid : List ℕ) (place : ℕ) → IsMarkedAt old mid place 1 → AreMarkedBut 0 old → AreMarkedBut (place / 64) mid
marked_after_set old mid place at marked = record {
  marked = λ p apart full.
      let was : get_or old (p + 1) 0 ≢ 0 = λ none. full (at.words (p + 1) apart ∙ none) in
      elim (cases_eq p place) [
        | inl here ↦ ap (bit_of mid) here ∙ at.at
        | inr other ↦ at.others p other ∙ marked.marked p (λ e. omega arith) was
      ];
}

pub leaf_set : (old mid new : List ℕ) (place : ℕ) → IsMarkedAt old mid place 1 → AreMarkedBut 0 new
    → ((limit : ℕ) → length mid ≤ limit + 1 → AreTrueBut 0 limit mid → AreTrueBut 0 limit new) → ((first : ℕ) → length mid ≤ 64 * first + 1 → SameFrom first mid new)
    → (first : ℕ) → 64 * first ≤ place → AreSummed first old → IsLeafChanged first old new place 1
leaf_set old mid new place at marked told same first leaf summed =
    let few : length mid ≤ 64 * first + 1 = omega (arith, at.long, summed.few) in
    let true_after : AreTrueBut 0 (64 * first) mid =
    record {
      told = λ p apart low set none. elim (cases_eq (p + 1) (place / 64)) [
        | inl up ↦ some_after old mid place at (ap (λ w. get_or mid w 0) (sym up) ∙ none)
        | inr other ↦ summed.told.told p apart low (sym (at.others p (λ e. omega arith)) ∙ set) (sym (at.words (p + 1) other) ∙ none)
      ];
    } in
    followed old mid new first place 1 leaf at.long summed.few (same first few) marked (told (64 * first) few true_after) at

-- ---- a bit is cleared

pub marked_after_clear : (old mid : List ℕ) (place : ℕ) → length old ≤ place + 1 → IsMarkedAt old mid place 0 → get_or mid (place / 64) 0 ≤ get_or old (place / 64) 0 → AreMarkedBut 0 old → AreMarkedBut 0 mid
marked_after_clear old mid place leaf at no_more marked = record {
  marked = λ p apart full.
      let was : get_or old (p + 1) 0 ≢ 0 =
      λ none. full
      (elim (cases_eq (p + 1) (place / 64)) [
        | inl up ↦
            let none_there : get_or old (place / 64) 0 ≡ 0 = ap (λ w. get_or old w 0) (sym up) ∙ none in
            let none_now : get_or mid (place / 64) 0 ≡ 0 = omega arith in
            ap (λ w. get_or mid w 0) up ∙ none_now
        | inr other ↦ at.words (p + 1) other ∙ none
      ])
      in
      elim (cases_eq p place) [
        | inl here ↦ absurd (was (get_or_past old (p + 1) 0 (omega arith)))
        | inr other ↦ at.others p other ∙ marked.marked p apart was
      ];
}

pub leaf_cleared : (old mid new : List ℕ) (place : ℕ) → IsMarkedAt old mid place 0 → AreMarkedBut 0 new
    → ((limit : ℕ) → length mid ≤ limit + 1 → AreTrueBut (place / 64) limit mid → AreTrueBut 0 limit new) → ((first : ℕ) → length mid ≤ 64 * first + 1 → SameFrom first mid new)
    → (first : ℕ) → 64 * first ≤ place → AreSummed first old → IsLeafChanged first old new place 0
leaf_cleared old mid new place at marked told same first leaf summed =
    let few : length mid ≤ 64 * first + 1 = omega (arith, at.long, summed.few) in
    let true_after : AreTrueBut (place / 64) (64 * first) mid =
    record {
      told = λ p apart low set none.
          summed.told.told p (λ e. omega arith) low (sym (at.others p (λ e. omega arith)) ∙ set) (sym (at.words (p + 1) apart) ∙ none);
    } in
    followed old mid new first place 0 leaf at.long summed.few (same first few) marked (told (64 * first) few true_after) at
