-- Lists of the same elements that are sorted by one total order, in which only equal elements tie, are one list; so the parent
-- records of an inode have one order.
use Rattle.std.proofs.Common.{◌≡◌, ℕ, suc, ◌+◌, ◌<◌, Bool, true, false, cond, List, [], ◌∷◌, length, get_or, Ordering, refl, sym, ap, subst, ◌∙◌, inl, inr, arith}
use Rattle.std.specs.Prelude.{IsPermutation, IsSortedBy, sum_by}
use Rattle.std.specs.List.{AllAdjacentBelow}
use Rattle.std.specs.Ordering.{is_lt, nat_cmp, ordering_reverse}
use Rattle.std.specs.Cmp.{IsTotalOrder, nat_cmp_is}
use Rattle.std.specs.Cmp.Lexicographic.{slice_cmp, nat_list_cmp_total}
use Rattle.std.specs.declared.cmp.Ordering.TheVariants.{Less, Equal, Greater}
use Rattle.std.proofs.lemmas.Cmp.{tied_itself}
use Rattle.std.proofs.lemmas.List.Sums.{sum_by-cons}
use Rattle.std.proofs.lemmas.List.Sorted.{IsPermutation-sym, IsPermutation-trans, ranks_by, sorted_far, sum_by-IsPermutation}
use Rattle.xn_bytes.specs.Superblock.{Geometry}
use Rattle.xn_bytes.specs.Parents.{ParentRecord}
use Rattle.xn_bytes.specs.ParentRecords.{IsBefore, ListsParents}
use Rattle.xn_parent.specs.Order.{record_cmp}
use Rattle.xn_parent.proofs.RecordOrder.{record_total, record_alike}
use Rattle.xn_verdicts.proofs.OneParents.{one_parents}

-- ---- lists with the same sums

-- whatever is counted, the one has as much as the other
abbrev HaveSameSums : {X : Type 0} → List X → List X → Type 0
HaveSameSums {X} xs ys = (f : X → ℕ) → sum_by f xs ≡ sum_by f ys

same_behind : {X : Type 0} (x : X) (xs ys : List X) → HaveSameSums (x ∷ xs) (x ∷ ys) → HaveSameSums xs ys
same_behind x xs ys same f = omega (arith, sum_by-cons f x xs, sum_by-cons f x ys, same f)

none_beside_some : {X : Type 0} (x : X) (xs : List X) → HaveSameSums [] (x ∷ xs) → ⊥
none_beside_some {X} x xs same =
    let one : X → ℕ = λ _. 1 in
    let none : 0 ≡ sum_by one (x ∷ xs) = same one in
    let some = sum_by-cons one x xs in
    absurd (omega arith)

sum_of_nothing : {X : Type 0} (f : X → ℕ) (xs : List X) → ((k : ℕ) (d : X) → k < length xs → f (get_or xs k d) ≡ 0) → sum_by f xs ≡ 0
sum_of_nothing f [] each = refl
sum_of_nothing f (x ∷ xs) each = omega (arith, sum_by-cons f x xs, each 0 x (omega arith), sum_of_nothing f xs (λ k d low. each (suc k) d (omega arith)))

-- ---- lists that are sorted

-- 1 for what passes a test
abbrev counted : Bool → ℕ
counted passes = cond passes 1 0

not_counted : (passes : Bool) → counted passes ≡ 0 → passes ≡ false
not_counted true e = absurd (omega arith)
not_counted false e = refl

module _ {X : Type 0} (cmp : X → X → Ordering) (total : IsTotalOrder cmp) (alike : (x y : X) → cmp x y ≡ Equal → x ≡ y) where
  -- one comes before the other
  abbrev is_less : X → X → Bool
  is_less a b = is_lt (cmp a b)

  -- 1 for what comes before an element
  abbrev is_before : X → X → ℕ
  is_before y x = counted (is_lt (cmp x y))

  sorted_behind : (x : X) (xs : List X) → IsSortedBy is_less (x ∷ xs) → IsSortedBy is_less xs
  sorted_behind x xs sorted k d low below =
      let next : suc k + 1 ≡ suc (k + 1) = omega arith in
      subst (λ (n : ℕ). is_less (get_or (x ∷ xs) n d) (get_or xs k d) ≡ false) next (sorted (suc k) d (omega arith) (omega arith))

  none_before : (y : X) (ys : List X) → IsSortedBy is_less (y ∷ ys) → sum_by (is_before y) (y ∷ ys) ≡ 0
  none_before y ys sorted = sum_of_nothing (is_before y) (y ∷ ys) (λ k d low. ap counted (sorted_far is_less (ranks_by total (λ (x : X). x)) (y ∷ ys) sorted 0 k d (omega arith) low))

  -- the first of the one is not before the first of the other
  first_not_before : (x y : X) (xs ys : List X) → IsSortedBy is_less (y ∷ ys) → sum_by (is_before y) (x ∷ xs) ≡ sum_by (is_before y) (y ∷ ys) → is_less x y ≡ false
  first_not_before x y xs ys sorted same =
      not_counted (is_less x y) (omega (arith, sum_by-cons (is_before y) x xs, same, none_before y ys sorted))

  neither : (x y : X) → is_less x y ≡ false → is_less y x ≡ false → (o : Ordering) → cmp x y ≡ o → x ≡ y
  neither x y one other Less e = absurd (let yes : is_less x y ≡ true = ap is_lt e in cc)
  neither x y one other Equal e = alike x y e
  neither x y one other Greater e = absurd (let yes : is_less y x ≡ true = ap is_lt (total.antisymm y x ∙ ap ordering_reverse e) in cc)

  sorted_with_same : (xs ys : List X) → HaveSameSums xs ys → IsSortedBy is_less xs → IsSortedBy is_less ys → xs ≡ ys
  sorted_with_same [] [] same up too = refl
  sorted_with_same [] (y ∷ ys) same up too = absurd (none_beside_some y ys same)
  sorted_with_same (x ∷ xs) [] same up too = absurd (none_beside_some x xs (λ f. sym (same f)))
  sorted_with_same (x ∷ xs) (y ∷ ys) same up too =
      let first = neither x y (first_not_before x y xs ys too (same (is_before y))) (first_not_before y x ys xs up (sym (same (is_before x)))) (cmp x y) refl in
      let shared : HaveSameSums (x ∷ xs) (x ∷ ys) = λ f. same f ∙ ap (λ (z : X). sum_by f (z ∷ ys)) (sym first) in
      ap (λ (z : X). z ∷ xs) first
      ∙ ap (λ (zs : List X). y ∷ zs) (sorted_with_same xs ys (same_behind x xs ys shared) (sorted_behind x xs up) (sorted_behind y ys too))

  -- two orders of the same elements that are both sorted are one
  pub sorted_same : (xs ys : List X) → IsPermutation xs ys → IsSortedBy is_less xs → IsSortedBy is_less ys → xs ≡ ys
  sorted_same xs ys moved = sorted_with_same xs ys (λ f. sym (sum_by-IsPermutation f xs ys moved))

  -- a list that rises is sorted
  pub sorted_from_rising : (xs : List X) → AllAdjacentBelow (λ a b. cmp a b ≡ Less) xs (length xs) → IsSortedBy is_less xs
  sorted_from_rising xs up k d low below = ap is_lt (total.antisymm (get_or xs (k + 1) d) (get_or xs k d) ∙ ap ordering_reverse (up k d below))

-- ---- parent records

number_less : (m n : ℕ) → m < n → nat_cmp m n ≡ Less
number_less m n less = sym (nat_cmp_is m n Less less)

number_same : (m n : ℕ) → m ≡ n → nat_cmp m n ≡ Equal
number_same m n same = sym (nat_cmp_is m n Equal same)

name_same : (a b : List ℕ) → a ≡ b → slice_cmp nat_cmp a b ≡ Equal
name_same a b same = subst (λ (name : List ℕ). slice_cmp nat_cmp a name ≡ Equal) same (tied_itself nat_list_cmp_total a)

-- a record that comes before another compares so
less_from_before : (a b : ParentRecord) → IsBefore a b → record_cmp a b ≡ Less
less_from_before a b (inl dir) = rw (number_less a.dir b.dir dir) refl
less_from_before a b (inr (inl name)) = rw (number_same a.dir b.dir name.0, name.1) refl
less_from_before a b (inr (inr generation)) = rw (number_same a.dir b.dir generation.0, name_same a.name b.name generation.1, number_less a.generation b.generation generation.2) refl

-- records in order are sorted
pub sorted_records : (xs : List ParentRecord) → AllAdjacentBelow IsBefore xs (length xs) → IsSortedBy (λ a b. is_lt (record_cmp a b)) xs
sorted_records xs up = sorted_from_rising record_cmp record_total record_alike xs (λ k d low. less_from_before (get_or xs k d) (get_or xs (k + 1) d) (up k d low))

-- records that rise, and the same records sorted in any way, are one list
pub same_records : (xs ys : List ParentRecord) → IsPermutation xs ys → AllAdjacentBelow IsBefore xs (length xs) → IsSortedBy (λ a b. is_lt (record_cmp a b)) ys → xs ≡ ys
same_records xs ys moved up sorted = sorted_same record_cmp record_total record_alike xs ys moved (sorted_records xs up) sorted

-- the parent records of an inode in order are one list
pub one_listing : (g : Geometry) (image : List ℕ) (ino : ℕ) (a b : List ParentRecord) → ListsParents g image ino a → ListsParents g image ino b → a ≡ b
one_listing g image ino a b one other =
    let same = one_parents g image ino one.records other.records one.parents other.parents in
    let moved : IsPermutation one.records b = subst (λ (records : List ParentRecord). IsPermutation records b) (sym same) other.ordered.same in
    same_records a b (IsPermutation-trans a one.records b (IsPermutation-sym one.records a one.ordered.same) moved) one.ordered.rising (sorted_records b other.ordered.rising)
