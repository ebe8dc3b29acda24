-- What follows of a permutation for filters, and for some element.
use Rattle.std.proofs.Common.{◌≡◌, ℕ, zero, suc, ◌<◌, Bool, true, false, cond, List, [], ◌∷◌, length, get_or, set, refl, ap, ◌∙◌, arith}
use Rattle.std.specs.Prelude.{Any, filter, IsPermutation}
use Rattle.std.specs.List.{swap}
use Rattle.std.proofs.lemmas.List.Sorted.{IsPermutation-keeps, IsPermutation-refl, IsPermutation-trans, IsPermutation-cons, IsPermutation-swap, Contains-permutation, length_permutation}

-- ---- a relation that holds where two first elements are exchanged, and stays behind one more element

record IsKept {X : Type 0} (R : List X → List X → Type 0) : Type 0 where
  same : (xs : List X) → R xs xs
  chain : (xs ys zs : List X) → R xs ys → R ys zs → R xs zs
  behind : (x : X) (xs ys : List X) → R xs ys → R (x ∷ xs) (x ∷ ys)
  front : (x y : X) (xs : List X) → R (x ∷ y ∷ xs) (y ∷ x ∷ xs)

-- the first is exchanged with a later one
first_exchanged : {X : Type 0} (R : List X → List X → Type 0) → IsKept R → (a : X) (xs : List X) (j : ℕ) (d : X) → j < length xs
    → R (a ∷ xs) (get_or xs j d ∷ set xs j a)
first_exchanged R kept a [] j d lt = absurd (omega arith)
first_exchanged R kept a (b ∷ xs) zero d lt = kept.front a b xs
first_exchanged R kept a (b ∷ xs) (suc j) d lt =
    kept.chain (a ∷ b ∷ xs) (b ∷ a ∷ xs) (get_or xs j d ∷ b ∷ set xs j a) (kept.front a b xs)
    (kept.chain (b ∷ a ∷ xs) (b ∷ get_or xs j d ∷ set xs j a) (get_or xs j d ∷ b ∷ set xs j a)
    (kept.behind b (a ∷ xs) (get_or xs j d ∷ set xs j a) (first_exchanged R kept a xs j d (omega arith)))
    (kept.front b (get_or xs j d) (set xs j a)))

exchanged : {X : Type 0} (R : List X → List X → Type 0) → IsKept R → (xs : List X) (i j : ℕ) (d : X) → i < length xs → j < length xs
    → R xs (set (set xs i (get_or xs j d)) j (get_or xs i d))
exchanged R kept [] i j d li lj = absurd (omega arith)
exchanged R kept (a ∷ xs) zero zero d li lj = kept.same (a ∷ xs)
exchanged R kept (a ∷ xs) zero (suc j) d li lj = first_exchanged R kept a xs j d (omega arith)
exchanged R kept (a ∷ xs) (suc i) zero d li lj = first_exchanged R kept a xs i d (omega arith)
exchanged R kept (a ∷ xs) (suc i) (suc j) d li lj =
    kept.behind a xs (set (set xs i (get_or xs j d)) j (get_or xs i d)) (exchanged R kept xs i j d (omega arith) (omega arith))

swapped : {X : Type 0} (R : List X → List X → Type 0) → IsKept R → (xs : List X) (i j : ℕ) → i < length xs → j < length xs
    → R xs (swap xs i j)
swapped R kept [] i j li lj = absurd (omega arith)
swapped R kept (d ∷ xs) i j li lj = exchanged R kept (d ∷ xs) i j d li lj

kept_by_permutation : {X : Type 0} (R : List X → List X → Type 0) → IsKept R → (xs ys : List X) → IsPermutation xs ys → R xs ys
kept_by_permutation R kept xs ys moved =
    IsPermutation-keeps xs (R xs) (kept.same xs) (λ l i j li lj so. kept.chain xs l (swap l i j) so (swapped R kept l i j li lj)) ys moved

-- ---- of a filter

two_first : {X : Type 0} (x y : X) (xs : List X) → IsPermutation (x ∷ y ∷ xs) (y ∷ x ∷ xs)
two_first x y xs = IsPermutation-swap (x ∷ y ∷ xs) (y ∷ x ∷ xs) 0 1 (omega arith) (omega arith) refl

one_behind : {X : Type 0} (b : Bool) (x : X) (xs ys : List X) → IsPermutation xs ys
    → IsPermutation (cond b (x ∷ xs) xs) (cond b (x ∷ ys) ys)
one_behind true x xs ys moved = IsPermutation-cons x xs ys moved
one_behind false x xs ys moved = moved

two_chosen : {X : Type 0} (a b : Bool) (x y : X) (xs : List X)
    → IsPermutation (cond a (x ∷ cond b (y ∷ xs) xs) (cond b (y ∷ xs) xs)) (cond b (y ∷ cond a (x ∷ xs) xs) (cond a (x ∷ xs) xs))
two_chosen true true x y xs = two_first x y xs
two_chosen true false x y xs = IsPermutation-refl (x ∷ xs)
two_chosen false true x y xs = IsPermutation-refl (y ∷ xs)
two_chosen false false x y xs = IsPermutation-refl xs

-- the elements that pass are moved with the others
pub filter-permutation : {X : Type 0} (p : X → Bool) (xs ys : List X) → IsPermutation xs ys → IsPermutation (filter p xs) (filter p ys)
filter-permutation p xs ys moved =
    kept_by_permutation (λ us vs. IsPermutation (filter p us) (filter p vs)) (record {
      same = λ us. IsPermutation-refl (filter p us);
      chain = λ us vs ws. IsPermutation-trans (filter p us) (filter p vs) (filter p ws);
      behind = λ u us vs one. one_behind (p u) u (filter p us) (filter p vs) one;
      front = λ u v us. two_chosen (p u) (p v) u v (filter p us);
    }) xs ys moved

-- ---- of none, and of some

none_long : {X : Type 0} (xs : List X) → length xs ≡ 0 → xs ≡ []
none_long [] is = refl
none_long (x ∷ xs) is = absurd (omega arith)

pub none-permutation : {X : Type 0} (xs ys : List X) → IsPermutation xs ys → xs ≡ [] → ys ≡ []
none-permutation xs ys moved none = none_long ys (length_permutation xs ys moved ∙ ap length none)

pub Any-permutation : {X : Type 0} (P : X → Type 0) (xs ys : List X) → IsPermutation xs ys → Any P xs → Any P ys
Any-permutation P xs ys moved (k, x, low, same, holds) =
    let there = Contains-permutation xs ys x moved (k, low, same) in (there.0, x, there.1, there.2, holds)
