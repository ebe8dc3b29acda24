-- The least position of a tree, found from the root down: at each level by the first word that has a bit.
use Rattle.std.proofs.Common.{◌≡◌, ◌≢◌, inl, inr, ℕ, zero, suc, ◌+◌, ◌-◌, ◌*◌, ◌/◌, ◌<◌, ◌≤◌, Bool, true, List, length, get_or, Some, sym, ap, ◌∙◌, arith}
use Rattle.std.specs.Prelude.{Contains, slice_get}
use Rattle.std.proofs.lemmas.Bool.{cases_eq, cases_lt, eqb-true, eq-eqb, ne_eqb}
use Rattle.std.proofs.lemmas.List.{get_or_past}
use Rattle.xn_pool.specs.Marks.{bit_of, AreMarkedBut, IsFirstOf}
use Rattle.xn_pool.specs.Trees.{level_below, IsTree, flag_of, flags_of, IsFirstTrue}
use Rattle.xn_pool.proofs.BitsOfWords.{has_bit, no_bit}
use Rattle.xn_pool.proofs.TreeFlags.{length-flags_of, get_or-flags_of, slice_get-flags_of}

-- a level isn't above the one from which it is reached
above : (levels start : ℕ) → start ≤ level_below levels start
above zero start = omega arith
above (suc levels) start = let rest : 64 * start + 1 ≤ level_below levels (64 * start + 1) = above levels (64 * start + 1) in omega arith

-- a word that has a bit is one of the words
within_words : (words : List ℕ) (w : ℕ) → get_or words w 0 ≢ 0 → w < length words
within_words words w some = elim (cases_lt w (length words)) [ inl low ↦ low | inr high ↦ absurd (some (get_or_past words w 0 high)) ]

-- where any bit is set, the root has one
root_some : (fuel p : ℕ) (words : List ℕ) → p < fuel → AreMarkedBut 0 words → bit_of words p ≡ 1 → get_or words 0 0 ≢ 0
root_some zero p words low marked set = absurd (omega arith)
root_some (suc fuel) p words low marked set =
    let has : get_or words (p / 64) 0 ≢ 0 = has_bit words p set in
    elim (cases_eq (p / 64) 0) [
      | inl root ↦ λ none. has (ap (λ w. get_or words w 0) root ∙ none)
      | inr lower ↦
          let next : p / 64 - 1 + 1 ≡ p / 64 = omega arith in
          root_some fuel (p / 64 - 1) words (omega arith) marked
          (marked.marked (p / 64 - 1) (λ e. omega arith) (λ none. has (ap (λ w. get_or words w 0) (sym next) ∙ none)))
    ]

-- On the way down: of this level, this is the first word that has a bit, and the leaves' level is reached from it.
pub record IsDescending (words : List ℕ) (first start word : ℕ) : Type 0 where
  pub some : get_or words word 0 ≢ 0
  pub from : start ≤ word
  pub below : word < 64 * start + 1
  pub empty : (w : ℕ) → start ≤ w → w < word → get_or words w 0 ≡ 0
  pub level : (levels : ℕ) × (first ≡ level_below levels start)

pub at_root : (words : List ℕ) (first count : ℕ) (flags : List Bool) → IsTree words first count → flags_of words first count ≡ flags → Contains flags true → IsDescending words first 0 0
at_root words first count flags tree shown (k, low, there) =
    let within : k < count = omega (arith, ap length shown, length-flags_of words first count) in
    let flag : flag_of words first k ≡ true = sym (get_or-flags_of words first count k true within) ∙ ap (λ fs. get_or fs k true) shown ∙ there in
    record {
      some = root_some (64 * first + k + 1) (64 * first + k) words (omega arith) tree.summed.marked (eqb-true _ _ flag);
      from = omega arith;
      below = omega arith;
      empty = λ w high low. absurd (omega arith);
      level = tree.level;
    }

-- no bit of this level stands in front of the first one of that word
none_before : (words : List ℕ) (first start word place : ℕ) → IsDescending words first start word → IsFirstOf words word place → (p : ℕ) → 64 * start ≤ p → p < place → bit_of words p ≡ 0
none_before words first start word place is found p high low = elim (cases_lt p (64 * word)) [
  | inl before ↦ no_bit words p (is.empty (p / 64) (omega arith) (omega arith))
  | inr there ↦ found.first p there low
]

-- above the leaves
pub in_words : (words : List ℕ) (first start word : ℕ) → IsDescending words first start word → word < length words
in_words words first start word is = within_words words word is.some

pub next_start : (first start : ℕ) → (levels : ℕ) × (first ≡ level_below levels start) → start < first → (levels : ℕ) × (first ≡ level_below levels (64 * start + 1))
next_start first start (zero, e) low = absurd (omega arith)
next_start first start (suc levels, e) low = (levels, e)

pub start_within : (first start : ℕ) → (levels : ℕ) × (first ≡ level_below levels start) → start ≤ first
start_within first start (levels, e) = omega (arith, above levels start)

pub descended : (words : List ℕ) (first count start word place : ℕ) → IsTree words first count → IsDescending words first start word → start < first → IsFirstOf words word place → IsDescending words first (64 * start + 1) (place + 1)
descended words first count start word place tree is low found =
    let level : (levels : ℕ) × (first ≡ level_below levels (64 * start + 1)) = next_start first start is.level low in
    let next : 64 * start + 1 ≤ first = start_within first (64 * start + 1) level in
    let above_leaves : place < 64 * first = omega (arith, is.below, found.below) in
    record {
      some = tree.summed.told.told place (λ e. omega arith) above_leaves found.there;
      from = omega (arith, is.from, found.from);
      below = omega (arith, is.below, found.below);
      empty = λ w high before. elim (cases_eq (get_or words w 0) 0) [
        | inl none ↦ none
        | inr some ↦
            let mark : w - 1 + 1 ≡ w = omega arith in
            let set : bit_of words (w - 1) ≡ 1 = tree.summed.marked.marked (w - 1) (λ e. omega arith) (λ none. some (ap (λ v. get_or words v 0) (sym mark) ∙ none)) in
            let clear : bit_of words (w - 1) ≡ 0 = none_before words first start word place is found (w - 1) (omega arith) (omega arith) in
            absurd (omega arith)
      ];
      level = level;
    }

-- in the leaves
pub least_found : (words : List ℕ) (first count start word place : ℕ) (flags : List Bool) → IsTree words first count → flags_of words first count ≡ flags → IsDescending words first start word → first ≤ start → IsFirstOf words word place
    → IsFirstTrue flags (place - 64 * first)
least_found words first count start word place flags tree shown is low found =
    let here : start ≡ first = omega (arith, start_within first start is.level) in
    let high : 64 * first ≤ place = omega (arith, is.from, found.from) in
    let place_is : 64 * first + (place - 64 * first) ≡ place = omega arith in
    let within : place - 64 * first < count =
    elim (cases_lt (place - 64 * first) count) [
      | inl below ↦ below
      | inr past ↦
          let none : bit_of words place ≡ 0 = tree.none place (omega arith) in
          let set : bit_of words place ≡ 1 = found.there in
          absurd (omega arith)
    ] in
    record {
      there =
          ap (λ fs. slice_get fs (place - 64 * first)) (sym shown)
          ∙ slice_get-flags_of words first count (place - 64 * first) within
          ∙ ap Some (eq-eqb _ _ (ap (bit_of words) place_is ∙ found.there));
      first = λ p before.
          let none : bit_of words (64 * first + p) ≡ 0 = none_before words first start word place is found (64 * first + p) (omega arith) (omega arith) in
          ap (λ fs. slice_get fs p) (sym shown)
          ∙ slice_get-flags_of words first count p (omega arith)
          ∙ ap Some (ne_eqb _ _ (λ set. omega arith));
    }
