-- What the rules say of entries stays when these only move.
use Rattle.std.proofs.Common.{◌≡◌, ℕ, zero, suc, ◌+◌, Bool, true, false, cond, List, [], ◌∷◌, length, refl, sym, ap, ◌∙◌, arith, inl, inr}
use Rattle.std.specs.Prelude.{◌&&◌, ◌⊎◌, ◌==◌, Any, Contains, count_by, filter, IsPermutation}
use Rattle.std.proofs.lemmas.List.Sums.{length-filter}
use Rattle.std.proofs.lemmas.List.Sorted.{Contains-permutation}
use Rattle.xn_rules.specs.Namings.{Naming, naming, standing_in, Leads}
use Rattle.xn_names.proofs.Counted.{count_by-cons, count_by-permutation}

-- ---- of a filter

pub length_filter-moved : {X : Type 0} (p : X → Bool) (xs ys : List X) → IsPermutation xs ys → length (filter p xs) ≡ length (filter p ys)
length_filter-moved p xs ys moved = length-filter p xs ∙ count_by-permutation p xs ys moved ∙ sym (length-filter p ys)

-- those of a filter that pass pass both tests
both_passed : {X : Type 0} (p q : X → Bool) (x : X) (kept : List X) (b : Bool) → p x ≡ b → count_by q (cond b (x ∷ kept) kept) ≡ cond (b && q x) 1 0 + count_by q kept
both_passed p q x kept true e = count_by-cons q x kept
both_passed p q x kept false e = omega arith

pub count_filter : {X : Type 0} (p q : X → Bool) (xs : List X) → count_by q (filter p xs) ≡ count_by (λ x. p x && q x) xs
count_filter p q [] = refl
count_filter p q (x ∷ xs) =
    both_passed p q x (filter p xs) (p x) refl ∙ ap (λ n. cond (p x && q x) 1 0 + n) (count_filter p q xs) ∙ sym (count_by-cons (λ y. p y && q y) x xs)

pub count_filter-moved : {X : Type 0} (p q : X → Bool) (xs ys : List X) → IsPermutation xs ys → count_by q (filter p xs) ≡ count_by q (filter p ys)
count_filter-moved p q xs ys moved = count_filter p q xs ∙ count_by-permutation (λ x. p x && q x) xs ys moved ∙ sym (count_filter p q ys)

nil_from_length : {X : Type 0} (xs : List X) → length xs ≡ 0 → xs ≡ []
nil_from_length [] e = refl
nil_from_length (x ∷ xs) e = absurd (omega arith)

pub no_filter-moved : {X : Type 0} (p : X → Bool) (xs ys : List X) → IsPermutation xs ys → filter p xs ≡ [] → filter p ys ≡ []
no_filter-moved p xs ys moved none = nil_from_length (filter p ys) (sym (length_filter-moved p xs ys moved) ∙ ap length none)

-- ---- of some element

pub Any-moved : {X : Type 0} (P : X → Type 0) (xs ys : List X) → IsPermutation xs ys → Any P xs → Any P ys
Any-moved P xs ys moved (k, x, lt, same, holds) =
    let there = Contains-permutation xs ys x moved (k, lt, same) in (there.0, x, there.1, there.2, holds)

-- those that a filter keeps stood in the list
kept_there : {X : Type 0} (b : Bool) (x : X) (kept : List X) (y : X) → Contains (cond b (x ∷ kept) kept) y → ((b ≡ true) × (x ≡ y)) ⊎ Contains kept y
kept_there true x kept y (zero, lt, same) = inl (refl, same)
kept_there true x kept y (suc k, lt, same) = inr (k, omega arith, same)
kept_there false x kept y there = inr there

pub contained_in_filter : {X : Type 0} (p : X → Bool) (xs : List X) (y : X) → Contains (filter p xs) y → (p y ≡ true) × Contains xs y
contained_in_filter p [] y (k, lt, same) = absurd (omega arith)
contained_in_filter p (x ∷ xs) y there =
    elim (kept_there (p x) x (filter p xs) y there) [
      | inl (passes, same) ↦ (ap p (sym same) ∙ passes, (zero, omega arith, same))
      | inr behind ↦ let rest = contained_in_filter p xs y behind in (rest.0, (suc rest.1.0, omega arith, rest.1.2))
    ]

-- and those of it that pass are kept
kept_behind : {X : Type 0} (b : Bool) (x : X) (kept : List X) (y : X) → Contains kept y → Contains (cond b (x ∷ kept) kept) y
kept_behind true x kept y (k, lt, same) = (suc k, omega arith, same)
kept_behind false x kept y there = there

pub passes_in_filter : {X : Type 0} (p : X → Bool) (xs : List X) (y : X) → p y ≡ true → Contains xs y → Contains (filter p xs) y
passes_in_filter p [] y passes (k, lt, same) = absurd (omega arith)
passes_in_filter p (x ∷ xs) y passes (zero, lt, same) =
    let first : p x ≡ true = ap p same ∙ passes in rw first (zero, omega arith, same)
passes_in_filter p (x ∷ xs) y passes (suc k, lt, same) =
    kept_behind (p x) x (filter p xs) y (passes_in_filter p xs y passes (k, omega arith, same))

-- so a fact of some that is kept stays
pub Any_filter-moved : {X : Type 0} (p : X → Bool) (P : X → Type 0) (xs ys : List X) → IsPermutation xs ys → Any P (filter p xs) → Any P (filter p ys)
Any_filter-moved p P xs ys moved (k, x, lt, same, holds) =
    let there = contained_in_filter p xs x (k, lt, same) in
    let kept = passes_in_filter p ys x there.0 (Contains-permutation xs ys x moved there.1) in
    (kept.0, x, kept.1, kept.2, holds)

-- ---- of the entries of one inode, and of one directory

pub length_naming-moved : (ino : ℕ) (xs ys : List Naming) → IsPermutation xs ys → length (naming ino xs) ≡ length (naming ino ys)
length_naming-moved ino xs ys moved = length_filter-moved (λ n. n.ino == ino) xs ys moved

pub no_naming-moved : (ino : ℕ) (xs ys : List Naming) → IsPermutation xs ys → naming ino xs ≡ [] → naming ino ys ≡ []
no_naming-moved ino xs ys moved none = no_filter-moved (λ n. n.ino == ino) xs ys moved none

pub count_naming-moved : (p : Naming → Bool) (ino : ℕ) (xs ys : List Naming) → IsPermutation xs ys → count_by p (naming ino xs) ≡ count_by p (naming ino ys)
count_naming-moved p ino xs ys moved = count_filter-moved (λ n. n.ino == ino) p xs ys moved

pub length_standing-moved : (dir : ℕ) (xs ys : List Naming) → IsPermutation xs ys → length (standing_in dir xs) ≡ length (standing_in dir ys)
length_standing-moved dir xs ys moved = length_filter-moved (λ n. n.dir == dir) xs ys moved

pub no_standing-moved : (dir : ℕ) (xs ys : List Naming) → IsPermutation xs ys → standing_in dir xs ≡ [] → standing_in dir ys ≡ []
no_standing-moved dir xs ys moved none = no_filter-moved (λ n. n.dir == dir) xs ys moved none

pub count_standing-moved : (p : Naming → Bool) (dir : ℕ) (xs ys : List Naming) → IsPermutation xs ys → count_by p (standing_in dir xs) ≡ count_by p (standing_in dir ys)
count_standing-moved p dir xs ys moved = count_filter-moved (λ n. n.dir == dir) p xs ys moved

pub Any_naming-moved : (P : Naming → Type 0) (ino : ℕ) (xs ys : List Naming) → IsPermutation xs ys → Any P (naming ino xs) → Any P (naming ino ys)
Any_naming-moved P ino xs ys moved any = Any_filter-moved (λ n. n.ino == ino) P xs ys moved any

pub Any_standing-moved : (P : Naming → Type 0) (dir : ℕ) (xs ys : List Naming) → IsPermutation xs ys → Any P (standing_in dir xs) → Any P (standing_in dir ys)
Any_standing-moved P dir xs ys moved any = Any_filter-moved (λ n. n.dir == dir) P xs ys moved any

-- ---- of ways

pub Leads-moved : (xs ys : List Naming) → IsPermutation xs ys → (from : ℕ) (path : List ℕ) (to : ℕ) → Leads xs from path to → Leads ys from path to
Leads-moved xs ys moved from [] to leads = leads
Leads-moved xs ys moved from (next ∷ path) to (step, rest) =
    (Any-moved (λ n. (n.dir ≡ from) × (n.ino ≡ next)) xs ys moved step, Leads-moved xs ys moved next path to rest)
