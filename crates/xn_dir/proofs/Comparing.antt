-- Leaf entries of two lists that are sorted: they are the same where one list is the other in another order.
use Rattle.std.proofs.Common.{◌≡◌, ℕ, suc, ◌+◌, ◌<◌, Bool, true, false, eqb, List, [], ◌∷◌, get_or, refl, sym, ap, subst, ◌∙◌, arith, inl, inr}
use Rattle.std.specs.Prelude.{◌&&◌, ◌↔◌, ◌*◌, ◌^◌, All, IsPermutation, IsSortedBy, if◌then◌else◌, sum_by}
use Rattle.std.specs.Ordering.{nat_cmp, ordering_then}
use Rattle.std.specs.Cmp.{IsStrictWeakOrder}
use Rattle.std.proofs.lemmas.Bool.{cases_lt, eq-eqb, eqb-true}
use Rattle.std.proofs.lemmas.Bool.Decides.{nat_tests}
use Rattle.std.proofs.lemmas.Grind.{common_steps}
use Rattle.std.proofs.lemmas.Cmp.{nat_cmp_total, on_total, then_total}
use Rattle.std.proofs.lemmas.List.Sorted.{IsPermutation-sym, IsPermutation-trans, ranks_by, sorted_far, sum_by-IsPermutation}
use Rattle.std.proofs.lemmas.List.Sums.{sum_by-cons}
use Rattle.xn_bytes.specs.DataBlock.{LeafEntry}
use Rattle.xn_bytes.proofs.LeafEntries.{same_leaf}
use Rattle.xn_dir.specs.Compare.{comes_before}

-- ---- sorted lists of any elements

-- elements add up to the same, whatever is counted of each
abbrev HaveSameSums : {X : Type 0} → List X → List X → Type 0
HaveSameSums {X} xs ys = (f : X → ℕ) → sum_by f xs ≡ sum_by f ys

abbrev one_if : Bool → ℕ
one_if test = if test then 1 else 0

none_if : (test : Bool) → one_if test ≡ 0 → test ≡ false
none_if true e = absurd cc
none_if false e = refl

no_sum : {X : Type 0} (f : X → ℕ) (xs : List X) → All (λ x. f x ≡ 0) xs → sum_by f xs ≡ 0
no_sum f [] all = refl
no_sum f (x ∷ xs) all =
    let rest : sum_by f xs ≡ 0 = no_sum f xs (λ k d h. all (suc k) d (omega arith)) in
    let first : f x ≡ 0 = all 0 x (omega arith) in
    omega (arith, sum_by-cons f x xs, rest, first)

module _ {X : Type 0} (lt : X → X → Bool) (o : IsStrictWeakOrder lt) where
  -- none of a list comes before the first of another that is sorted
  not_before : (x y : X) (xs ys : List X) → HaveSameSums (x ∷ xs) (y ∷ ys) → IsSortedBy lt (y ∷ ys) → lt x y ≡ false
  not_before x y xs ys same sorted =
      let count : X → ℕ = λ z. one_if (lt z y) in
      let none : sum_by count (y ∷ ys) ≡ 0 = no_sum count (y ∷ ys) (λ k d h. ap one_if (sorted_far lt o (y ∷ ys) sorted 0 k d (omega arith) h)) in
      none_if (lt x y) (omega (arith, same count, none, sum_by-cons count x xs))

  sorted_tail : (x : X) (xs : List X) → IsSortedBy lt (x ∷ xs) → IsSortedBy lt xs
  sorted_tail x xs sorted k d low h =
      let next : suc k + 1 ≡ suc (k + 1) = omega arith in
      subst (λ (n : ℕ). lt (get_or (x ∷ xs) n d) (get_or xs k d) ≡ false) next (sorted (suc k) d (omega arith) (omega arith))

  in_one_order : ((x y : X) → lt x y ≡ false → lt y x ≡ false → x ≡ y) → (xs ys : List X) → HaveSameSums xs ys → IsSortedBy lt xs → IsSortedBy lt ys → xs ≡ ys
  in_one_order tied [] [] same a b = refl
  in_one_order tied [] (y ∷ ys) same a b = let one : X → ℕ = λ z. 1 in absurd (omega (arith, same one, sum_by-cons one y ys))
  in_one_order tied (x ∷ xs) [] same a b = let one : X → ℕ = λ z. 1 in absurd (omega (arith, same one, sum_by-cons one x xs))
  in_one_order tied (x ∷ xs) (y ∷ ys) same a b =
      let first : x ≡ y = tied x y (not_before x y xs ys same b) (not_before y x ys xs (λ f. sym (same f)) a) in
      let rest : xs ≡ ys =
      in_one_order tied xs ys (λ f. let one : f x ≡ f y = ap f first in omega (arith, same f, sum_by-cons f x xs, sum_by-cons f y ys, one))
      (sorted_tail x xs a) (sorted_tail y ys b) in
      ap (λ (z : X). z ∷ xs) first ∙ ap (λ (zs : List X). y ∷ zs) rest

-- ---- leaf entries

abbrev hash_of : LeafEntry → ℕ
hash_of leaf = leaf.hash

abbrev address_of : LeafEntry → ℕ
address_of leaf = leaf.address

pub ranks : IsStrictWeakOrder comes_before
ranks = ranks_by (then_total (on_total (λ (leaf : LeafEntry). leaf.hash) nat_cmp_total) (on_total (λ (leaf : LeafEntry). leaf.address) nat_cmp_total)) (λ leaf. leaf)

-- hash and address as one number compare as the pair
pub numbers_compare : (hash address other_hash other_address : ℕ) → address < 2 ^ 32 → other_address < 2 ^ 32
    → nat_cmp (2 ^ 32 * hash + address) (2 ^ 32 * other_hash + other_address) ≡ ordering_then (nat_cmp hash other_hash) (nat_cmp address other_address)
numbers_compare hash address other_hash other_address small other_small = grind (arith, nat_tests, common_steps)

pub less_hash : (leaf other : LeafEntry) → leaf.hash < other.hash → comes_before leaf other ≡ true
less_hash leaf other less = grind (arith, nat_tests, common_steps)

less_address : (leaf other : LeafEntry) → leaf.hash ≡ other.hash → leaf.address < other.address → comes_before leaf other ≡ true
less_address leaf other same less = grind (arith, nat_tests, common_steps)

pub no_both : {G : Type 0} (b : Bool) → b ≡ true → b ≡ false → G
no_both true t f = absurd cc
no_both false t f = absurd cc

equal : (m n : ℕ) → (m < n → ⊥) → (n < m → ⊥) → m ≡ n
equal m n a b =
    elim (cases_lt m n) [
      | inl lt ↦ absurd (a lt)
      | inr le ↦ elim (cases_lt n m) [ inl lt ↦ absurd (b lt) | inr other ↦ omega arith ]
    ]

tied_leaves : (leaf other : LeafEntry) → comes_before leaf other ≡ false → comes_before other leaf ≡ false → leaf ≡ other
tied_leaves leaf other a b =
    let hash : leaf.hash ≡ other.hash = equal leaf.hash other.hash (λ lt. no_both _ (less_hash leaf other lt) a) (λ lt. no_both _ (less_hash other leaf lt) b) in
    let address : leaf.address ≡ other.address =
    equal leaf.address other.address (λ lt. no_both _ (less_address leaf other hash lt) a) (λ lt. no_both _ (less_address other leaf (sym hash) lt) b) in
    same_leaf leaf other hash address

-- two lists of leaf entries, sorted, are the same exactly where the lists are, in another order
pub same_sorted : (wanted live sorted others : List LeafEntry) → IsPermutation wanted sorted → IsPermutation live others → IsSortedBy comes_before sorted → IsSortedBy comes_before others
    → (sorted ≡ others) ↔ IsPermutation wanted live
same_sorted wanted live sorted others p q a b = (
  λ same. IsPermutation-trans wanted sorted live p (subst (λ (xs : List LeafEntry). IsPermutation xs live) (sym same) (IsPermutation-sym live others q)),
  λ moved.
      let moves : IsPermutation sorted others = IsPermutation-trans sorted wanted others (IsPermutation-sym wanted sorted p) (IsPermutation-trans wanted live others moved q) in
      in_one_order comes_before ranks tied_leaves sorted others (λ f. sym (sum_by-IsPermutation f sorted others moves)) a b,
)

both_true : (a b : Bool) → (a && b) ≡ true → (a ≡ true) × (b ≡ true)
both_true true true e = (refl, refl)
both_true true false e = absurd cc
both_true false b e = absurd cc

-- two leaf entries are `==` exactly where they are the same
pub same_entry : (leaf other : LeafEntry) → ((eqb leaf.hash other.hash && eqb leaf.address other.address) ≡ true → leaf ≡ other) × (leaf ≡ other → (eqb leaf.hash other.hash && eqb leaf.address other.address) ≡ true)
same_entry leaf other = (
  λ equal.
      let both = both_true (eqb leaf.hash other.hash) (eqb leaf.address other.address) equal in
      same_leaf leaf other (eqb-true _ _ both.0) (eqb-true _ _ both.1),
  λ same.
      let hash : eqb leaf.hash other.hash ≡ true = eq-eqb _ _ (ap hash_of same) in
      let address : eqb leaf.address other.address ≡ true = eq-eqb _ _ (ap address_of same) in
      rw (hash, address) refl,
)
