-- What filters keep of lists.
use Rattle.std.proofs.Common.{◌≡◌, Bool, true, false, cond, List, [], ◌∷◌, map, refl, ap}
use Rattle.std.specs.Prelude.{All, filter}
use Rattle.std.proofs.lemmas.List.Elements.{All-head, All-tail}

-- none passes
pub filter_none : {X : Type 0} (p : X → Bool) (xs : List X) → All (λ x. p x ≡ false) xs → filter p xs ≡ []
filter_none p [] all = refl
filter_none p (x ∷ xs) all =
    let fails : p x ≡ false = All-head (λ y. p y ≡ false) x xs all in
    rw fails (filter_none p xs (All-tail (λ y. p y ≡ false) x xs all))

-- each passes
pub filter_each : {X : Type 0} (p : X → Bool) (xs : List X) → All (λ x. p x ≡ true) xs → filter p xs ≡ xs
filter_each p [] all = refl
filter_each p (x ∷ xs) all =
    let yes : p x ≡ true = All-head (λ y. p y ≡ true) x xs all in
    rw yes (ap (λ ys. x ∷ ys) (filter_each p xs (All-tail (λ y. p y ≡ true) x xs all)))

-- through a function of the elements
map_cond : {X Y : Type 0} (f : X → Y) (b : Bool) (xs ys : List X) → map f (cond b xs ys) ≡ cond b (map f xs) (map f ys)
map_cond f true xs ys = refl
map_cond f false xs ys = refl

pub map-filter : {X Y : Type 0} (f : X → Y) (p : Y → Bool) (xs : List X) → map f (filter (λ x. p (f x)) xs) ≡ filter p (map f xs)
map-filter f p [] = refl
map-filter f p (x ∷ xs) = rw (map_cond f (p (f x)) (x ∷ filter (λ y. p (f y)) xs) (filter (λ y. p (f y)) xs), map-filter f p xs) refl
