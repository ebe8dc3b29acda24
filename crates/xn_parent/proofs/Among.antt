-- The parent records among attributes, one attribute after another.
use Rattle.std.proofs.Common.{◌≡◌, ℕ, zero, suc, ◌+◌, ◌<◌, Bool, true, false, cond, List, [], ◌∷◌, ◌++◌, length, map, get_or, take, refl, sym, subst, arith, append-nil}
use Rattle.std.specs.Prelude.{All, filter}
use Rattle.std.proofs.lemmas.List.{map-append}
use Rattle.std.proofs.lemmas.List.Elements.{filter_more, All-push, All-head, All-tail}
use Rattle.xn_bytes.specs.declared.attribute.Attribute.{Attribute}
use Rattle.xn_bytes.specs.Attributes.{is_parent}
use Rattle.xn_bytes.specs.ParentRecords.{IsRecord, parents_among, record_in}
use Rattle.xn_items.specs.declared.parent.ParentRec.{ParentRec}
use Rattle.xn_items.specs.Viewed.{record_of}

-- these are the parents that the attributes spell, and each is well formed
pub record AreAmong (attributes : List Attribute) (parents : List ParentRec) : Type 0 where
  pub formed : All IsRecord (parents_among attributes)
  pub same : map record_of parents ≡ map record_in (parents_among attributes)

-- one attribute more
one_more : (xs : List Attribute) (i : ℕ) (x : Attribute) → i < length xs → x ≡ get_or xs i x
    → parents_among (take (i + 1) xs) ≡ parents_among (take i xs) ++ cond (is_parent x.flags) (x ∷ []) []
one_more xs i x lt stands =
    let more = filter_more (λ (y : Attribute). is_parent y.flags) xs i x lt in rw (← stands) at more

one_taken : (xs : List Attribute) (i : ℕ) (x : Attribute) → i < length xs → x ≡ get_or xs i x → is_parent x.flags ≡ true → parents_among (take (i + 1) xs) ≡ parents_among (take i xs) ++ x ∷ []
one_taken xs i x lt stands is = rw is at (one_more xs i x lt stands)

one_passed : (xs : List Attribute) (i : ℕ) (x : Attribute) → i < length xs → x ≡ get_or xs i x → is_parent x.flags ≡ false → parents_among (take (i + 1) xs) ≡ parents_among (take i xs)
one_passed xs i x lt stands is = rw (is, append-nil) at (one_more xs i x lt stands)

pub among_taken : (xs : List Attribute) (i : ℕ) (x : Attribute) (parents : List ParentRec) (parent : ParentRec) → i < length xs → x ≡ get_or xs i x → is_parent x.flags ≡ true
    → IsRecord x → record_of parent ≡ record_in x → AreAmong (take i xs) parents → AreAmong (take (i + 1) xs) (parents ++ parent ∷ [])
among_taken xs i x parents parent lt stands is formed spells before = record {
  formed = rw (one_taken xs i x lt stands is) (All-push IsRecord (parents_among (take i xs)) x before.formed formed);
  same = rw (one_taken xs i x lt stands is, map-append record_of parents (parent ∷ []), map-append record_in (parents_among (take i xs)) (x ∷ []), before.same, spells) refl;
}

pub among_passed : (xs : List Attribute) (i : ℕ) (x : Attribute) (parents : List ParentRec) → i < length xs → x ≡ get_or xs i x → is_parent x.flags ≡ false
    → AreAmong (take i xs) parents → AreAmong (take (i + 1) xs) parents
among_passed xs i x parents lt stands is before = record {
  formed = rw (one_passed xs i x lt stands is) before.formed;
  same = rw (one_passed xs i x lt stands is) before.same;
}

-- ---- what holds of each that a filter keeps

tail_of_filter : {X : Type 0} (P : X → Type 0) (x : X) (ys : List X) (b : Bool) → All P (cond b (x ∷ ys) ys) → All P ys
tail_of_filter P x ys true all = All-tail P x ys all
tail_of_filter P x ys false all = all

-- it holds of an element that passes
passes_all : {X : Type 0} (p : X → Bool) (P : X → Type 0) (xs : List X) → All P (filter p xs) → (i : ℕ) (d : X) → i < length xs → p (get_or xs i d) ≡ true → P (get_or xs i d)
passes_all p P [] all i d lt passes = absurd (omega arith)
passes_all p P (x ∷ xs) all zero d lt passes = All-head P x (filter p xs) (rw passes at all)
passes_all p P (x ∷ xs) all (suc i) d lt passes = passes_all p P xs (tail_of_filter P x (filter p xs) (p x) all) i d (omega arith) passes

-- Where all are well formed, one of them is.
pub record_of_all : (xs : List Attribute) (i : ℕ) (x : Attribute) → i < length xs → x ≡ get_or xs i x → is_parent x.flags ≡ true → All IsRecord (parents_among xs) → IsRecord x
record_of_all xs i x lt stands is all =
    let here : is_parent (get_or xs i x).flags ≡ true = subst (λ (y : Attribute). is_parent y.flags ≡ true) stands is in
    subst IsRecord (sym stands) (passes_all (λ (y : Attribute). is_parent y.flags) IsRecord xs all i x lt here)
