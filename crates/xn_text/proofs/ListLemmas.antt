-- Fronts of lists.
use Rattle.std.proofs.Common.{◌≡◌, ◌∙◌, List, [], ◌∷◌, ◌++◌, length, take, Result, Ok, Err, refl, sym, ap}
use Rattle.std.specs.Result.{OnErr}
use Rattle.std.proofs.Math.Seq.{take-append_seam}

take_twice : {A : Type 0} (xs ys : List A) (zs : List A) → take (length xs) (take (length (xs ++ ys)) zs) ≡ take (length xs) zs
take_twice [] ys zs = refl
take_twice (x ∷ xs) ys [] = refl
take_twice (x ∷ xs) ys (z ∷ zs) = ap (λ rest. z ∷ rest) (take_twice xs ys zs)

-- what stands in front of a front stands in front
pub front_of : {A : Type 0} (xs ys zs whole : List A) → zs ≡ xs ++ ys → take (length zs) whole ≡ zs → take (length xs) whole ≡ xs
front_of xs ys zs whole is front =
    sym (take_twice xs ys whole)
    ∙ ap (take (length xs)) (ap (λ part. take (length part) whole) (sym is) ∙ front ∙ is)
    ∙ take-append_seam xs ys

pub on_err : {T E P : Type 0} (r : Result T E) → P → OnErr r P
on_err (Ok x) p = tt
on_err (Err e) p = p
