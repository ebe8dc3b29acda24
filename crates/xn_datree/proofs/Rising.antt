-- Lists in the order of a number of each element, read from the front.
use Rattle.std.proofs.Common.{◌≡◌, ℕ, zero, suc, ◌+◌, ◌<◌, ◌≤◌, List, [], ◌∷◌, length, get_or, drop, sym, ap, add-one, arith}
use Rattle.std.proofs.Math.Seq.{drop-cons}
use Rattle.std.specs.List.Sorted.{IsNonDecreasingBy}

-- no number is below the one in front of it, the first of them not below `least`
abbrev pub RiseBy : {X : Type 0} → (X → ℕ) → ℕ → List X → Type 0
RiseBy n least [] = Unit {0}
RiseBy n least (x ∷ xs) = (least ≤ n x) × RiseBy n (n x) xs

all_behind : {X : Type 0} (n : X → ℕ) (least : ℕ) (xs : List X) → RiseBy n least xs → (j : ℕ) (d : X) → j < length xs → least ≤ n (get_or xs j d)
all_behind n least [] rise j d below = absurd (omega arith)
all_behind n least (x ∷ xs) rise zero d below = rise.0
all_behind n least (x ∷ xs) rise (suc j) d below =
    let rest : n x ≤ n (get_or xs j d) = all_behind n (n x) xs rise.1 j d (omega arith) in
    omega (arith, rise.0, rest)

pub sorted_from : {X : Type 0} (n : X → ℕ) (least : ℕ) (xs : List X) → RiseBy n least xs → IsNonDecreasingBy n xs
sorted_from n least [] rise i j d h below = absurd (omega arith)
sorted_from n least (x ∷ xs) rise zero zero d h below = omega arith
sorted_from n least (x ∷ xs) rise zero (suc j) d h below = all_behind n (n x) xs rise.1 j d (omega arith)
sorted_from n least (x ∷ xs) rise (suc i) zero d h below = absurd (omega arith)
sorted_from n least (x ∷ xs) rise (suc i) (suc j) d h below = sorted_from n (n x) xs rise.1 i j d (omega arith) (omega arith)

pub rise_from : {X : Type 0} (n : X → ℕ) (least : ℕ) (xs : List X) → ((j : ℕ) (d : X) → j < length xs → least ≤ n (get_or xs j d)) → IsNonDecreasingBy n xs → RiseBy n least xs
rise_from n least [] low sorted = tt
rise_from n least (x ∷ xs) low sorted = (
  low 0 x (omega arith),
  rise_from n (n x) xs (λ j d below. sorted 0 (suc j) d (omega arith) (omega arith)) (λ i j d h below. sorted (suc i) (suc j) d (omega arith) (omega arith)),
)

pub rise_from_sorted : {X : Type 0} (n : X → ℕ) (xs : List X) → IsNonDecreasingBy n xs → RiseBy n 0 xs
rise_from_sorted n xs sorted = rise_from n 0 xs (λ j d below. omega arith) sorted

-- the rest of a list rises exactly where the list does
pub record GoesOn {X : Type 0} (n : X → ℕ) (all : List X) (least : ℕ) (rest : List X) : Type 0 where
  pub to : RiseBy n least rest → IsNonDecreasingBy n all
  pub back : IsNonDecreasingBy n all → RiseBy n least rest

pub goes_on : {X : Type 0} (n : X → ℕ) (all : List X) (least : ℕ) (x : X) (rest : List X) → least ≤ n x → GoesOn n all least (x ∷ rest) → GoesOn n all (n x) rest
goes_on n all least x rest low goes = record {
  to = λ rise. goes.to (low, rise);
  back = λ sorted. (goes.back sorted).1;
}

pub falls : {X : Type 0} (n : X → ℕ) (all : List X) (least : ℕ) (x : X) (rest : List X) → n x < least → GoesOn n all least (x ∷ rest) → IsNonDecreasingBy n all → ⊥
falls n all least x rest low goes sorted = let rise = goes.back sorted in omega (arith, rise.0)

-- the element at a place, and what stands behind it
pub drop_at : {X : Type 0} (xs : List X) (i : ℕ) (x : X) → i < length xs → x ≡ get_or xs i x → drop i xs ≡ x ∷ drop (i + 1) xs
drop_at xs i x below is = rw (add-one, drop-cons xs i x) (ap (λ y. y ∷ drop (suc i) xs) (sym is))
