-- Names in order: where names that are sorted rise, each stands once, and where each stands once, they rise.
use Rattle.std.proofs.Common.{◌≡◌, ◌≢◌, ℕ, zero, suc, ◌+◌, ◌-◌, ◌<◌, true, false, List, length, get_or, refl, sym, ap, subst, ◌∙◌, arith, inl, inr}
use Rattle.std.proofs.lemmas.Bool.{cases_lt, cases_eq}
use Rattle.std.specs.Prelude.{◌⊎◌, AllPairs, IsPermutation, IsSortedBy}
use Rattle.std.specs.List.{AllAdjacentBelow, swap}
use Rattle.std.specs.Ordering.{nat_cmp, is_lt, is_eq, ordering_reverse}
use Rattle.std.specs.Cmp.{IsTotalOrder}
use Rattle.std.specs.Cmp.Lexicographic.{slice_cmp, nat_list_cmp_total}
use Rattle.std.specs.declared.cmp.Ordering.{Ordering}
use Rattle.std.specs.declared.cmp.Ordering.TheVariants.{Less, Equal, Greater}
use Rattle.std.proofs.lemmas.List.Sorted.{IsPermutation-keeps}
use Rattle.std.proofs.lemmas.List.Edits.{swapped_from_swap, length-swap}
use Rattle.std.proofs.lemmas.Map.Text.{is_eq-slice_cmp}
use Rattle.std.proofs.lemmas.Slice.Eq.{bytes_eq-Decides}
use Rattle.std.proofs.lemmas.Cmp.{tied_itself}

-- ---- a fact of each two elements, whichever comes first

-- R of any two at different places
abbrev EachTwo : {X : Type 0} → (X → X → Type 0) → List X → Type 0
EachTwo {X} R xs = (i j : ℕ) (d : X) → i ≢ j → i < length xs → j < length xs → R (get_or xs i d) (get_or xs j d)

each_two : {X : Type 0} (R : X → X → Type 0) → ((x y : X) → R x y → R y x) → (xs : List X) → AllPairs R xs → EachTwo R xs
each_two R flip xs pairs i j d ne li lj =
    elim (cases_lt i j) [
      | inl lt ↦ pairs i j d lt lj
      | inr le ↦ let lt : j < i = omega arith in flip (get_or xs j d) (get_or xs i d) (pairs j i d lt li)
    ]

all_pairs : {X : Type 0} (R : X → X → Type 0) (xs : List X) → EachTwo R xs → AllPairs R xs
all_pairs R xs two i j d lt lj = two i j d (omega arith) (omega arith) lj

-- where the element at a place stood before two places were exchanged
record Stood {X : Type 0} (xs : List X) (i j a : ℕ) (d : X) : Type 0 where
  place : ℕ
  within : place < length xs
  same : get_or (swap xs i j) a d ≡ get_or xs place d
  which : ((a ≡ i) × (place ≡ j)) ⊎ (((a ≡ j) × (place ≡ i)) ⊎ ((a ≢ i) × (a ≢ j) × (place ≡ a)))

stood : {X : Type 0} (xs : List X) (i j a : ℕ) (d : X) → i < length xs → j < length xs → a < length xs → Stood xs i j a d
stood xs i j a d li lj la =
    let moved = swapped_from_swap xs (swap xs i j) i j d li lj refl in
    elim (cases_eq a i) [
      | inl e ↦ record { place = j; within = lj; same = ap (λ (n : ℕ). get_or (swap xs i j) n d) e ∙ moved.0; which = inl (e, refl) }
      | inr n ↦ elim (cases_eq a j) [
        | inl e ↦ record { place = i; within = li; same = ap (λ (m : ℕ). get_or (swap xs i j) m d) e ∙ moved.1; which = inr (inl (e, refl)) }
        | inr m ↦ record { place = a; within = la; same = moved.2 a n m; which = inr (inr (n, m, refl)) }
      ]
    ]

apart : (i j a b p q : ℕ) → a ≢ b → ((a ≡ i) × (p ≡ j)) ⊎ (((a ≡ j) × (p ≡ i)) ⊎ ((a ≢ i) × (a ≢ j) × (p ≡ a)))
    → ((b ≡ i) × (q ≡ j)) ⊎ (((b ≡ j) × (q ≡ i)) ⊎ ((b ≢ i) × (b ≢ j) × (q ≡ b))) → p ≢ q
apart i j a b p q ne (inl x) (inl y) = λ e. ne (x.0 ∙ sym y.0)
apart i j a b p q ne (inl x) (inr (inl y)) = λ e. ne (omega arith)
apart i j a b p q ne (inl x) (inr (inr y)) = λ e. y.1 (omega arith)
apart i j a b p q ne (inr (inl x)) (inl y) = λ e. ne (omega arith)
apart i j a b p q ne (inr (inl x)) (inr (inl y)) = λ e. ne (omega arith)
apart i j a b p q ne (inr (inl x)) (inr (inr y)) = λ e. y.0 (omega arith)
apart i j a b p q ne (inr (inr x)) (inl y) = λ e. x.1 (omega arith)
apart i j a b p q ne (inr (inr x)) (inr (inl y)) = λ e. x.0 (omega arith)
apart i j a b p q ne (inr (inr x)) (inr (inr y)) = λ e. ne (omega arith)

each_two-swap : {X : Type 0} (R : X → X → Type 0) (xs : List X) (i j : ℕ) → i < length xs → j < length xs → EachTwo R xs → EachTwo R (swap xs i j)
each_two-swap R xs i j li lj two a b d ne la lb =
    let x = stood xs i j a d li lj (rw (← length-swap xs i j) la) in
    let y = stood xs i j b d li lj (rw (← length-swap xs i j) lb) in
    rw (x.same, y.same) (two x.place y.place d (apart i j a b x.place y.place ne x.which y.which) x.within y.within)

-- a fact of each two stays when elements only move
pub AllPairs-permutation : {X : Type 0} (R : X → X → Type 0) → ((x y : X) → R x y → R y x) → (xs ys : List X) → IsPermutation xs ys → AllPairs R xs → AllPairs R ys
AllPairs-permutation R flip xs ys perm pairs =
    all_pairs R ys (IsPermutation-keeps xs (EachTwo R) (each_two R flip xs pairs) (λ l i j li lj two. each_two-swap R l i j li lj two) ys perm)

-- ---- the order of names

names_total : IsTotalOrder (slice_cmp nat_cmp)
names_total = nat_list_cmp_total

-- names that compare alike are one
alike : (xs ys : List ℕ) → slice_cmp nat_cmp xs ys ≡ Equal → xs ≡ ys
alike xs ys e = (bytes_eq-Decides xs ys).0 (sym (is_eq-slice_cmp xs ys) ∙ ap is_eq e)

-- one name comes before another, byte by byte
abbrev pub ComesBefore : List ℕ → List ℕ → Type 0
ComesBefore a b = slice_cmp nat_cmp a b ≡ Less

-- each name comes before the next
abbrev pub Rise : List (List ℕ) → Type 0
Rise names = AllAdjacentBelow ComesBefore names (length names)

-- a name is not before itself
not_before_itself : (xs : List ℕ) → ComesBefore xs xs → ⊥
not_before_itself xs e = let same = tied_itself names_total xs in absurd cc

-- a name that comes before another is another
before_differs : (a b : List ℕ) → ComesBefore a b → a ≢ b
before_differs a b before e = not_before_itself b (subst (λ (xs : List ℕ). ComesBefore xs b) e before)

pub differ_flip : (a b : List ℕ) → a ≢ b → b ≢ a
differ_flip a b ne e = ne (sym e)

-- an element that comes later in a list that rises comes after
rises_far : (xs : List (List ℕ)) → Rise xs → (i gap : ℕ) (d : List ℕ) → suc i + gap < length xs → ComesBefore (get_or xs i d) (get_or xs (suc i + gap) d)
rises_far xs up i zero d lt = subst (λ (n : ℕ). ComesBefore (get_or xs i d) (get_or xs n d)) (omega arith) (up i d (omega arith))
rises_far xs up i (suc gap) d lt =
    let first = rises_far xs up i gap d (omega arith) in
    let next : ComesBefore (get_or xs (suc i + gap) d) (get_or xs (suc i + gap + 1) d) = up (suc i + gap) d (omega arith) in
    subst (λ (n : ℕ). ComesBefore (get_or xs i d) (get_or xs n d)) (omega arith) (names_total.trans (get_or xs i d) (get_or xs (suc i + gap) d) (get_or xs (suc i + gap + 1) d) first next)

-- rising names stand once
pub once_from_rising : (xs : List (List ℕ)) → Rise xs → AllPairs (λ a b. a ≢ b) xs
once_from_rising xs up i j d lt lj =
    let same : suc i + (j - suc i) ≡ j = omega arith in
    before_differs (get_or xs i d) (get_or xs j d) (subst (λ (n : ℕ). ComesBefore (get_or xs i d) (get_or xs n d)) same (rises_far xs up i (j - suc i) d (omega arith)))

-- of two names that are not alike, and the second not before the first, the first is before
first_before : (a b : List ℕ) (o : Ordering) → slice_cmp nat_cmp a b ≡ o → is_lt (slice_cmp nat_cmp b a) ≡ false → a ≢ b → ComesBefore a b
first_before a b Less e back ne = e
first_before a b Equal e back ne = absurd (ne (alike a b e))
first_before a b Greater e back ne =
    let flipped : slice_cmp nat_cmp b a ≡ Less = names_total.antisymm b a ∙ ap ordering_reverse e in
    let yes : is_lt (slice_cmp nat_cmp b a) ≡ true = ap is_lt flipped in absurd cc

-- names that are sorted and stand once rise
pub rising_from_once : (xs : List (List ℕ)) → IsSortedBy (λ a b. is_lt (slice_cmp nat_cmp a b)) xs → AllPairs (λ a b. a ≢ b) xs → Rise xs
rising_from_once xs sorted once k d lt =
    first_before (get_or xs k d) (get_or xs (k + 1) d) _ refl (sorted k d (omega arith) lt) (once k (k + 1) d (omega arith) lt)
