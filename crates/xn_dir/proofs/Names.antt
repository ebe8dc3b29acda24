-- Names as they are read in place, sorted: they rise exactly where each stands once.
use Rattle.std.proofs.Common.{◌≢◌, ℕ, ◌+◌, ◌<◌, Bool, List, [], ◌∷◌, length, map, arith}
use Rattle.std.specs.Prelude.{AllPairs, IsPermutation, IsSortedBy}
use Rattle.std.specs.List.{AllAdjacentBelow}
use Rattle.std.proofs.lemmas.List.{get_or-map, length-map}
use Rattle.std.proofs.lemmas.List.Sorted.{IsPermutation-sym}
use Rattle.xn_bytes.proofs.NameOrder.{ComesBefore, AllPairs-permutation, differ_flip, once_from_rising, rising_from_once}
use Rattle.xn_dir.specs.Listings.{AreSorted}

-- a fact of neighbours, through a function of the elements
pub adjacent_map : {X Y : Type 0} (f : X → Y) (R : Y → Y → Type 0) (xs : List X) → AllAdjacentBelow (λ a b. R (f a) (f b)) xs (length xs) → AllAdjacentBelow R (map f xs) (length (map f xs))
adjacent_map f R [] all k d lt = absurd (omega arith)
adjacent_map f R (x ∷ xs) all k d lt =
    let within : k + 1 < length (x ∷ xs) = rw (← length-map (x ∷ xs) f) lt in
    rw (get_or-map f (x ∷ xs) k x d (omega arith), get_or-map f (x ∷ xs) (k + 1) x d within) (all k x within)

pub adjacent_unmap : {X Y : Type 0} (f : X → Y) (R : Y → Y → Type 0) (xs : List X) → AllAdjacentBelow R (map f xs) (length (map f xs)) → AllAdjacentBelow (λ a b. R (f a) (f b)) xs (length xs)
adjacent_unmap f R xs all k d lt =
    let within : k + 1 < length (map f xs) = rw (length-map xs f) lt in
    rw (← get_or-map f xs k d (f d) (omega arith), ← get_or-map f xs (k + 1) d (f d) lt) (all k (f d) within)

-- sorted by what a function gives is sorted as its values
pub sorted_map : {X Y : Type 0} (f : X → Y) (lt : Y → Y → Bool) (xs : List X) → IsSortedBy (λ a b. lt (f a) (f b)) xs → IsSortedBy lt (map f xs)
sorted_map f lt [] sorted k d from below = absurd (omega arith)
sorted_map f lt (x ∷ xs) sorted k d from below =
    let within : k + 1 < length (x ∷ xs) = rw (← length-map (x ∷ xs) f) below in
    rw (get_or-map f (x ∷ xs) k x d (omega arith), get_or-map f (x ∷ xs) (k + 1) x d within) (sorted k x from within)

pub once_where_rising : {X : Type 0} (f : X → List ℕ) (names : List (List ℕ)) (sorted : List X) → IsPermutation names (map f sorted)
    → AllAdjacentBelow (λ a b. ComesBefore (f a) (f b)) sorted (length sorted) → AllPairs (λ a b. a ≢ b) names
once_where_rising f names sorted same rising =
    AllPairs-permutation (λ a b. a ≢ b) differ_flip (map f sorted) names (IsPermutation-sym names (map f sorted) same) (once_from_rising (map f sorted) (adjacent_map f ComesBefore sorted rising))

pub rising_where_once : {X : Type 0} (f : X → List ℕ) (names : List (List ℕ)) (sorted : List X) → IsPermutation names (map f sorted) → AreSorted (map f sorted)
    → AllPairs (λ a b. a ≢ b) names → AllAdjacentBelow (λ a b. ComesBefore (f a) (f b)) sorted (length sorted)
rising_where_once f names sorted same in_order once =
    adjacent_unmap f ComesBefore sorted (rising_from_once (map f sorted) in_order (AllPairs-permutation (λ a b. a ≢ b) differ_flip names (map f sorted) same once))
