-- Lists that are sorted by one order, in which elements that tie are one: where they have the same elements they are one list.
use Rattle.std.proofs.Common.{◌≡◌, ℕ, zero, suc, ◌+◌, ◌<◌, Bool, true, false, cond, List, [], ◌∷◌, length, map, get_or, refl, sym, ap, subst, ◌∙◌, arith}
use Rattle.std.specs.Prelude.{All, count_by, IsPermutation, IsSortedBy}
use Rattle.std.specs.Ordering.{is_lt, ordering_reverse}
use Rattle.std.specs.Cmp.{IsTotalOrder}
use Rattle.std.specs.declared.cmp.Ordering.{Ordering}
use Rattle.std.specs.declared.cmp.Ordering.TheVariants.{Less, Equal, Greater}
use Rattle.std.proofs.lemmas.List.{get_or-map, length-map}
use Rattle.std.proofs.lemmas.List.Sorted.{ranks_by, sorted_far}
use Rattle.xn_names.proofs.Counted.{count_by-cons, count_by-permutation, count_by-none}

-- ---- sorted lists

-- through a function of the elements
pub sorted_map : {X Y : Type 0} (f : X → Y) (lt : Y → Y → Bool) (xs : List X) → IsSortedBy (λ a b. lt (f a) (f b)) xs → IsSortedBy lt (map f xs)
sorted_map f lt [] sorted k d from below = absurd (omega arith)
sorted_map f lt (x ∷ xs) sorted k d from below =
    let within : k + 1 < length (x ∷ xs) = rw (← length-map (x ∷ xs) f) below in
    rw (get_or-map f (x ∷ xs) k x d (omega arith), get_or-map f (x ∷ xs) (k + 1) x d within) (sorted k x from within)

sorted_tail : {X : Type 0} (lt : X → X → Bool) (x : X) (xs : List X) → IsSortedBy lt (x ∷ xs) → IsSortedBy lt xs
sorted_tail lt x xs sorted k d from below =
    let e : suc k + 1 ≡ suc (k + 1) = omega arith in
    subst (λ (i : ℕ). lt (get_or (x ∷ xs) i d) (get_or xs k d) ≡ false) e (sorted (suc k) d (omega arith) (omega arith))

-- ---- the least element

-- none is less than the first
none_less : {X : Type 0} (cmp : X → X → Ordering) → IsTotalOrder cmp → (x : X) (xs : List X) → IsSortedBy (λ a b. is_lt (cmp a b)) (x ∷ xs) → All (λ y. is_lt (cmp y x) ≡ false) (x ∷ xs)
none_less {X} cmp total x xs sorted k d lt =
    sorted_far (λ a b. is_lt (cmp a b)) (ranks_by total (λ (y : X). y)) (x ∷ xs) sorted zero k d (omega arith) lt

-- one that would be counted is not there
not_counted : (b : Bool) (n : ℕ) → cond b 1 0 + n ≡ 0 → b ≡ false
not_counted true n e = absurd (omega arith)
not_counted false n e = refl

-- nor is the first of another list with as many elements that pass each test
first_not_less : {X : Type 0} (cmp : X → X → Ordering) → IsTotalOrder cmp → (x y : X) (xs ys : List X) → IsSortedBy (λ a b. is_lt (cmp a b)) (y ∷ ys)
    → ((p : X → Bool) → count_by p (x ∷ xs) ≡ count_by p (y ∷ ys)) → is_lt (cmp x y) ≡ false
first_not_less {X} cmp total x y xs ys sorted counts =
    let p : X → Bool = λ a. is_lt (cmp a y) in
    let nothing : count_by p (y ∷ ys) ≡ 0 = count_by-none p (y ∷ ys) (none_less cmp total y ys sorted) in
    not_counted (p x) (count_by p xs) (sym (count_by-cons p x xs) ∙ counts p ∙ nothing)

neither_less : (a b : Ordering) → is_lt a ≡ false → is_lt b ≡ false → a ≡ ordering_reverse b → a ≡ Equal
neither_less Less b na nb e = absurd cc
neither_less Equal b na nb e = refl
neither_less Greater Less na nb e = absurd cc
neither_less Greater Equal na nb e = absurd cc
neither_less Greater Greater na nb e = absurd cc

cancelled : (a b m n : ℕ) → a ≡ b → a + m ≡ b + n → m ≡ n
cancelled a b m n e both = omega arith

pub same_from_counts : {X : Type 0} (cmp : X → X → Ordering) → IsTotalOrder cmp → ((x y : X) → cmp x y ≡ Equal → x ≡ y) → (xs ys : List X)
    → IsSortedBy (λ a b. is_lt (cmp a b)) xs → IsSortedBy (λ a b. is_lt (cmp a b)) ys → ((p : X → Bool) → count_by p xs ≡ count_by p ys) → xs ≡ ys
same_from_counts cmp total alike [] [] sorted others counts = refl
same_from_counts {X} cmp total alike [] (y ∷ ys) sorted others counts =
    let e : 0 ≡ 1 + count_by (λ (a : X). true) ys = counts (λ a. true) ∙ count_by-cons (λ (a : X). true) y ys in absurd (omega arith)
same_from_counts {X} cmp total alike (x ∷ xs) [] sorted others counts =
    let e : 1 + count_by (λ (a : X). true) xs ≡ 0 = sym (count_by-cons (λ (a : X). true) x xs) ∙ counts (λ a. true) in absurd (omega arith)
same_from_counts {X} cmp total alike (x ∷ xs) (y ∷ ys) sorted others counts =
    let tied = neither_less (cmp x y) (cmp y x) (first_not_less cmp total x y xs ys others counts) (first_not_less cmp total y x ys xs sorted (λ p. sym (counts p))) (total.antisymm x y) in
    let first : x ≡ y = alike x y tied in
    let rest : (p : X → Bool) → count_by p xs ≡ count_by p ys = λ p.
    let both : cond (p x) 1 0 + count_by p xs ≡ cond (p y) 1 0 + count_by p ys = sym (count_by-cons p x xs) ∙ counts p ∙ count_by-cons p y ys in
    cancelled (cond (p x) 1 0) (cond (p y) 1 0) (count_by p xs) (count_by p ys) (ap (λ (a : X). cond (p a) 1 0) first) both in
    let tails = same_from_counts cmp total alike xs ys (sorted_tail (λ a b. is_lt (cmp a b)) x xs sorted) (sorted_tail (λ a b. is_lt (cmp a b)) y ys others) rest in
    cc

pub same_from_permutation : {X : Type 0} (cmp : X → X → Ordering) → IsTotalOrder cmp → ((x y : X) → cmp x y ≡ Equal → x ≡ y) → (xs ys : List X)
    → IsSortedBy (λ a b. is_lt (cmp a b)) xs → IsSortedBy (λ a b. is_lt (cmp a b)) ys → IsPermutation xs ys → xs ≡ ys
same_from_permutation cmp total alike xs ys sorted others moved = same_from_counts cmp total alike xs ys sorted others (λ p. count_by-permutation p xs ys moved)
