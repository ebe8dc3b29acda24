-- How many elements pass a test.
use Rattle.std.proofs.Common.{map, ap, ◌≡◌, ◌+◌, Bool, false, cond, List, [], ◌∷◌, refl, sym, ◌∙◌}
use Rattle.std.specs.Prelude.{All, count_by, IsPermutation}
use Rattle.std.proofs.lemmas.List.Elements.{All-head, All-tail}
use Rattle.std.proofs.lemmas.List.Sums.{sum_by-cons}
use Rattle.std.proofs.lemmas.List.Sorted.{sum_by-IsPermutation}

pub count_by-cons : {X : Type 0} (p : X → Bool) (x : X) (xs : List X) → count_by p (x ∷ xs) ≡ cond (p x) 1 0 + count_by p xs
count_by-cons p x xs = sum_by-cons (λ y. cond (p y) 1 0) x xs

pub count_by-permutation : {X : Type 0} (p : X → Bool) (xs ys : List X) → IsPermutation xs ys → count_by p xs ≡ count_by p ys
count_by-permutation p xs ys moved = sym (sum_by-IsPermutation (λ y. cond (p y) 1 0) xs ys moved)

pub count_by-none : {X : Type 0} (p : X → Bool) (xs : List X) → All (λ x. p x ≡ false) xs → count_by p xs ≡ 0
count_by-none p [] all = refl
count_by-none p (x ∷ xs) all =
    let fails : p x ≡ false = All-head (λ y. p y ≡ false) x xs all in
    count_by-cons p x xs ∙ rw (fails, count_by-none p xs (All-tail (λ y. p y ≡ false) x xs all)) refl

-- through a function of the elements
pub count_by-map : {X Y : Type 0} (f : X → Y) (p : Y → Bool) (xs : List X) → count_by p (map f xs) ≡ count_by (λ x. p (f x)) xs
count_by-map f p [] = refl
count_by-map f p (x ∷ xs) =
    count_by-cons p (f x) (map f xs) ∙ ap (λ n. cond (p (f x)) 1 0 + n) (count_by-map f p xs) ∙ sym (count_by-cons (λ y. p (f y)) x xs)
