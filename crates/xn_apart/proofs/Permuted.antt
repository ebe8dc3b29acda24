-- What holds of each two elements of a list, whichever stands in front, holds of them in any order of the list.
use Rattle.std.proofs.Common.{◌≡◌, ℕ, ◌<◌, ◌≤◌, ◌≢◌, cond, List, length, get_or, AllPairs, ⊎_elim, refl, sym, subst, ◌↔◌, inl, inr, arith, eqb}
use Rattle.std.specs.List.{swap}
use Rattle.std.specs.List.Sorted.{IsPermutation}
use Rattle.std.proofs.lemmas.Bool.{cases_lt}
use Rattle.std.proofs.lemmas.Bool.Decides.{nat_tests}
use Rattle.std.proofs.lemmas.List.Edits.{swapped_from_swap, length-swap}
use Rattle.std.proofs.lemmas.List.Sorted.{IsPermutation-keeps, IsPermutation-sym}
use Rattle.xn_apart.specs.Spans.{AreApart}
use Rattle.xn_apart.specs.declared.span.Span.{Span}

-- where the element at a place stood before a swap
abbrev before_swap : ℕ → ℕ → ℕ → ℕ
before_swap i j at = cond (eqb at i) j (cond (eqb at j) i at)

before_swap-differ : (i j p q : ℕ) → p ≢ q → before_swap i j p ≢ before_swap i j q
before_swap-differ i j p q differ same = grind (arith, nat_tests)

before_swap-below : (i j at n : ℕ) → i < n → j < n → at < n → before_swap i j at < n
before_swap-below i j at n low high within = grind (arith, nat_tests)

stood_before : {X : Type 0} (f g : ℕ → X) (i j at : ℕ) → g i ≡ f j → g j ≡ f i → ((m : ℕ) → (m ≡ i → ⊥) → (m ≡ j → ⊥) → g m ≡ f m) → g at ≡ f (before_swap i j at)
stood_before f g i j at first second others = grind (arith, nat_tests)

any_two : {X : Type 0} (R : X → X → Type 0) → ((a b : X) → R a b → R b a) → (xs : List X) → AllPairs R xs
    → (p q : ℕ) (d : X) → p ≢ q → p < length xs → q < length xs → R (get_or xs p d) (get_or xs q d)
any_two R turned xs pairs p q d differ low high =
    ⊎_elim
    (λ (less : p < q). pairs p q d less high)
    (λ (more : q ≤ p). turned _ _ (pairs q p d (omega arith) low))
    (cases_lt p q)

AllPairs-swap : {X : Type 0} (R : X → X → Type 0) → ((a b : X) → R a b → R b a) → (xs : List X) (i j : ℕ) → i < length xs → j < length xs → AllPairs R xs → AllPairs R (swap xs i j)
AllPairs-swap {X} R turned xs i j low high pairs p q d less within =
    let ends = swapped_from_swap xs (swap xs i j) i j d low high refl in
    let inside : q < length xs = omega (arith, length-swap xs i j, within) in
    let stood : (at : ℕ) → get_or (swap xs i j) at d ≡ get_or xs (before_swap i j at) d = λ at. stood_before (λ m. get_or xs m d) (λ m. get_or (swap xs i j) m d) i j at ends.0 ends.1 ends.2 in
    let Front : X → Type 0 = λ x. R x (get_or (swap xs i j) q d) in
    let Back : X → Type 0 = λ x. R (get_or xs (before_swap i j p) d) x in
    subst Front (sym (stood p)) (
    subst Back (sym (stood q)) (
    any_two R turned xs pairs (before_swap i j p) (before_swap i j q) d
    (before_swap-differ i j p q (λ same. omega arith))
    (before_swap-below i j p _ low high (omega arith))
    (before_swap-below i j q _ low high inside)
    )
    )

-- of any list, and of spans
pub AllPairs-permutation : {X : Type 0} (R : X → X → Type 0) → ((a b : X) → R a b → R b a) → (xs ys : List X) → IsPermutation xs ys → AllPairs R xs → AllPairs R ys
AllPairs-permutation R turned xs ys same pairs = IsPermutation-keeps xs (AllPairs R) pairs (AllPairs-swap R turned) ys same

pub AreApart-turned : (a b : Span) → AreApart a b → AreApart b a
AreApart-turned a b apart = ⊎_elim (λ before. inr before) (λ behind. inl behind) apart

pub all_apart-permutation : (spans others : List Span) → IsPermutation spans others → AllPairs AreApart spans → AllPairs AreApart others
all_apart-permutation = AllPairs-permutation AreApart AreApart-turned

pub apart_in_any_order : (spans others : List Span) → IsPermutation spans others → AllPairs AreApart spans ↔ AllPairs AreApart others
apart_in_any_order spans others same = (all_apart-permutation spans others same, all_apart-permutation others spans (IsPermutation-sym spans others same))
