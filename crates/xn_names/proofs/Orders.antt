-- The orders of entries.
use Rattle.std.proofs.Common.{inl, inr, ◌≡◌, ℕ, ◌+◌, ◌-◌, ◌<◌, ◌≤◌, true, false, List, length, get_or, take, drop, sym, ap, ◌∙◌, arith, eqb-true}
use Rattle.std.specs.Prelude.{◌==◌, All}
use Rattle.std.specs.List.Sorted.{IsNonDecreasingBy}
use Rattle.std.specs.Ordering.{nat_cmp, is_lt, ordering_then}
use Rattle.std.specs.Cmp.{IsTotalOrder}
use Rattle.std.specs.Cmp.Lexicographic.{nat_list_cmp_total}
use Rattle.std.specs.declared.cmp.Ordering.{Ordering}
use Rattle.std.specs.declared.cmp.Ordering.TheVariants.{Equal}
use Rattle.std.proofs.lemmas.Cmp.{nat_cmp_total, on_total, then_total, tied_itself}
use Rattle.std.proofs.lemmas.List.{length-take-le, length-drop, get_or-take, get_or-drop}
use Rattle.std.proofs.lemmas.List.Sorted.{IsNonDecreasingBy-from_all_adjacent}
use Rattle.std.proofs.lemmas.Bool.{cases_lt}
use Rattle.xn_names.specs.declared.entry.Naming.{Naming}
use Rattle.xn_names.specs.Names.{place_cmp, naming_cmp, IsInOrder, IsByPlace}

pub place_total : IsTotalOrder place_cmp
place_total = then_total (on_total (λ (n : Naming). n.dir) nat_cmp_total) (on_total (λ (n : Naming). n.name) nat_list_cmp_total)

pub naming_total : IsTotalOrder naming_cmp
naming_total = then_total (on_total (λ (n : Naming). n.ino) nat_cmp_total) place_total

-- of neighbours in order the second has no lesser inode
smaller : (a b : ℕ) (o : Ordering) → b < a → is_lt (ordering_then (nat_cmp b a) o) ≡ true
smaller a b o lt = grind (arith, nat_cmp, is_lt, ordering_then)

no_lesser : (a b : Naming) → is_lt (naming_cmp b a) ≡ false → a.ino ≤ b.ino
no_lesser a b back =
    elim (cases_lt b.ino a.ino) [ inl lt ↦ let yes = smaller a.ino b.ino (place_cmp b a) lt in absurd cc | inr le ↦ le ]

-- the whole order is one by inodes
pub by_inode : (xs : List Naming) → IsInOrder xs → IsNonDecreasingBy (λ n. n.ino) xs
by_inode xs sorted =
    IsNonDecreasingBy-from_all_adjacent (λ n. n.ino) xs (λ k d lt. no_lesser (get_or xs k d) (get_or xs (k + 1) d) (sorted k d (omega arith) lt))

-- and among those that name one inode by places
one_inode : (a b : Naming) → a.ino ≡ b.ino → is_lt (naming_cmp a b) ≡ false → is_lt (place_cmp a b) ≡ false
one_inode a b e back =
    let tied : nat_cmp a.ino b.ino ≡ Equal = rw e (tied_itself nat_cmp_total b.ino) in
    rw tied at back

-- a run of a list in order, of which each element names one inode
pub run_by_place : (ino : ℕ) (xs : List Naming) (start count : ℕ) (ys : List Naming) → ys ≡ drop start xs → count ≤ length ys
    → All (λ n. (n.ino == ino) ≡ true) (take count ys) → IsInOrder xs → IsByPlace (take count ys)
run_by_place ino xs start count ys are few all sorted k d from lt =
    let next : k + 1 < count = rw (length-take-le count ys few) at lt in
    let long : length ys ≡ length xs - start = rw are (length-drop start xs) in
    let first : (get_or ys k d).ino ≡ ino = rw (get_or-take count ys k d (omega arith)) at (eqb-true (get_or (take count ys) k d).ino ino (all k d (omega arith))) in
    let second : (get_or ys (k + 1) d).ino ≡ ino = rw (get_or-take count ys (k + 1) d next) at (eqb-true (get_or (take count ys) (k + 1) d).ino ino (all (k + 1) d lt)) in
    let place : get_or ys k d ≡ get_or xs (start + k) d = rw are (get_or-drop start xs k d) in
    let place_next : get_or ys (k + 1) d ≡ get_or xs (start + k + 1) d = rw are (get_or-drop start xs (k + 1) d ∙ ap (λ (i : ℕ). get_or xs i d) (omega arith)) in
    let back : is_lt (naming_cmp (get_or ys (k + 1) d) (get_or ys k d)) ≡ false = rw (place, place_next) (sorted (start + k) d (omega arith) (omega arith)) in
    rw (get_or-take count ys k d (omega arith), get_or-take count ys (k + 1) d next) (one_inode (get_or ys (k + 1) d) (get_or ys k d) (second ∙ sym first) back)
