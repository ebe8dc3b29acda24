-- Facts of some element of a list, through a function of the elements.
use Rattle.std.proofs.Common.{◌≡◌, ◌<◌, List, [], ◌∷◌, length, map, get_or, sym, ap, subst, ◌∙◌, arith}
use Rattle.std.specs.Prelude.{Any}
use Rattle.std.proofs.lemmas.List.{get_or-map, length-map}
use Rattle.std.proofs.lemmas.List.Elements.{Contains-get_or}

pub Any-map : {X Y : Type 0} (f : X → Y) (P : Y → Type 0) (xs : List X) → Any (λ x. P (f x)) xs → Any P (map f xs)
Any-map f P xs (k, x, lt, same, holds) =
    (k, f x, rw (length-map xs f) lt, get_or-map f xs k x (f x) lt ∙ ap f same, holds)

pub Any-unmap : {X Y : Type 0} (f : X → Y) (P : Y → Type 0) (xs : List X) → Any P (map f xs) → Any (λ x. P (f x)) xs
Any-unmap f P [] (k, y, lt, same, holds) = absurd (omega arith)
Any-unmap f P (x ∷ xs) (k, y, lt, same, holds) =
    let within : k < length (x ∷ xs) = rw (length-map (x ∷ xs) f) at lt in
    let there = Contains-get_or (x ∷ xs) k x within in
    let e : y ≡ f (get_or (x ∷ xs) k x) = sym same ∙ get_or-map f (x ∷ xs) k x y within in
    (there.0, get_or (x ∷ xs) k x, there.1, there.2, subst P e holds)
