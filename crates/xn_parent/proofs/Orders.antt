-- Elements in a total order: those that are sorted rise exactly where each stands once.
use Rattle.std.proofs.Common.{◌≡◌, ◌≢◌, ℕ, zero, suc, ◌+◌, ◌-◌, ◌<◌, Bool, true, false, List, [], ◌∷◌, length, map, get_or, refl, ap, subst, ◌∙◌, arith}
use Rattle.std.specs.Prelude.{AllPairs, IsSortedBy}
use Rattle.std.specs.List.{AllAdjacentBelow}
use Rattle.std.specs.Ordering.{is_lt, ordering_reverse}
use Rattle.std.specs.Cmp.{IsTotalOrder}
use Rattle.std.specs.declared.cmp.Ordering.{Ordering}
use Rattle.std.specs.declared.cmp.Ordering.TheVariants.{Less, Equal, Greater}
use Rattle.std.proofs.lemmas.Cmp.{tied_itself}
use Rattle.std.proofs.lemmas.List.{get_or-map, length-map}

-- ---- through a function of the elements

pub adjacent_map : {X Y : Type 0} (f : X → Y) (R : Y → Y → Type 0) (xs : List X) → AllAdjacentBelow (λ a b. R (f a) (f b)) xs (length xs) → AllAdjacentBelow R (map f xs) (length (map f xs))
adjacent_map f R [] all k d lt = absurd (omega arith)
adjacent_map f R (x ∷ xs) all k d lt =
    let within : k + 1 < length (x ∷ xs) = rw (← length-map (x ∷ xs) f) lt in
    rw (get_or-map f (x ∷ xs) k x d (omega arith), get_or-map f (x ∷ xs) (k + 1) x d within) (all k x within)

pub adjacent_unmap : {X Y : Type 0} (f : X → Y) (R : Y → Y → Type 0) (xs : List X) → AllAdjacentBelow R (map f xs) (length (map f xs)) → AllAdjacentBelow (λ a b. R (f a) (f b)) xs (length xs)
adjacent_unmap f R xs all k d lt =
    let within : k + 1 < length (map f xs) = rw (length-map xs f) lt in
    rw (← get_or-map f xs k d (f d) (omega arith), ← get_or-map f xs (k + 1) d (f d) lt) (all k (f d) within)

pub sorted_map : {X Y : Type 0} (f : X → Y) (lt : Y → Y → Bool) (xs : List X) → IsSortedBy (λ a b. lt (f a) (f b)) xs → IsSortedBy lt (map f xs)
sorted_map f lt [] sorted k d from below = absurd (omega arith)
sorted_map f lt (x ∷ xs) sorted k d from below =
    let within : k + 1 < length (x ∷ xs) = rw (← length-map (x ∷ xs) f) below in
    rw (get_or-map f (x ∷ xs) k x d (omega arith), get_or-map f (x ∷ xs) (k + 1) x d within) (sorted k x from within)

-- a fact of neighbours that gives another
pub adjacent_weaker : {X : Type 0} (R S : X → X → Type 0) → ((x y : X) → R x y → S x y) → (xs : List X) (high : ℕ) → AllAdjacentBelow R xs high → AllAdjacentBelow S xs high
adjacent_weaker R S give xs high all k d lt = give (get_or xs k d) (get_or xs (k + 1) d) (all k d lt)

-- ---- rising

-- each element comes before the next
abbrev pub Rises : {X : Type 0} → (X → X → Ordering) → List X → Type 0
Rises cmp xs = AllAdjacentBelow (λ a b. cmp a b ≡ Less) xs (length xs)

-- an element that comes before another is another
before_differs : {X : Type 0} (cmp : X → X → Ordering) → IsTotalOrder cmp → (a b : X) → cmp a b ≡ Less → a ≢ b
before_differs {X} cmp total a b before e =
    let itself : cmp b b ≡ Less = subst (λ (x : X). cmp x b ≡ Less) e before in
    let same = tied_itself total b in absurd cc

-- an element that comes later in a list that rises comes after
rises_far : {X : Type 0} (cmp : X → X → Ordering) → IsTotalOrder cmp → (xs : List X) → Rises cmp xs → (i gap : ℕ) (d : X) → suc i + gap < length xs → cmp (get_or xs i d) (get_or xs (suc i + gap) d) ≡ Less
rises_far cmp total xs up i zero d lt = subst (λ (n : ℕ). cmp (get_or xs i d) (get_or xs n d) ≡ Less) (omega arith) (up i d (omega arith))
rises_far cmp total xs up i (suc gap) d lt =
    let first = rises_far cmp total xs up i gap d (omega arith) in
    let next : cmp (get_or xs (suc i + gap) d) (get_or xs (suc i + gap + 1) d) ≡ Less = up (suc i + gap) d (omega arith) in
    subst (λ (n : ℕ). cmp (get_or xs i d) (get_or xs n d) ≡ Less) (omega arith) (total.trans (get_or xs i d) (get_or xs (suc i + gap) d) (get_or xs (suc i + gap + 1) d) first next)

-- elements that rise stand once
pub once_from_rising : {X : Type 0} (cmp : X → X → Ordering) → IsTotalOrder cmp → (xs : List X) → Rises cmp xs → AllPairs (λ a b. a ≢ b) xs
once_from_rising cmp total xs up i j d lt lj =
    let same : suc i + (j - suc i) ≡ j = omega arith in
    before_differs cmp total (get_or xs i d) (get_or xs j d) (subst (λ (n : ℕ). cmp (get_or xs i d) (get_or xs n d) ≡ Less) same (rises_far cmp total xs up i (j - suc i) d (omega arith)))

-- of two that are not alike, and the second not before the first, the first is before
first_before : {X : Type 0} (cmp : X → X → Ordering) → IsTotalOrder cmp → ((x y : X) → cmp x y ≡ Equal → x ≡ y) → (a b : X) (o : Ordering) → cmp a b ≡ o → is_lt (cmp b a) ≡ false → a ≢ b → cmp a b ≡ Less
first_before cmp total alike a b Less e back ne = e
first_before cmp total alike a b Equal e back ne = absurd (ne (alike a b e))
first_before cmp total alike a b Greater e back ne =
    let flipped : cmp b a ≡ Less = total.antisymm b a ∙ ap ordering_reverse e in
    let yes : is_lt (cmp b a) ≡ true = ap is_lt flipped in absurd cc

-- elements that are sorted and stand once rise, where those that tie are one
pub rising_from_once : {X : Type 0} (cmp : X → X → Ordering) → IsTotalOrder cmp → ((x y : X) → cmp x y ≡ Equal → x ≡ y) → (xs : List X) → IsSortedBy (λ a b. is_lt (cmp a b)) xs → AllPairs (λ a b. a ≢ b) xs → Rises cmp xs
rising_from_once cmp total alike xs sorted once k d lt =
    first_before cmp total alike (get_or xs k d) (get_or xs (k + 1) d) _ refl (sorted k d (omega arith) lt) (once k (k + 1) d (omega arith) lt)
