-- Parent records in order that are those which entries ask for are the same list.
use Rattle.std.proofs.Common.{◌≡◌, ℕ, ◌+◌, ◌<◌, false, List, [], ◌∷◌, length, map, get_or, refl, sym, ap, ◌∙◌, arith}
use Rattle.std.specs.Prelude.{All, IsPermutation, IsSortedBy}
use Rattle.std.specs.List.{AllAdjacentBelow}
use Rattle.std.specs.Ordering.{nat_cmp, is_lt, ordering_then, ordering_reverse}
use Rattle.std.specs.Cmp.Lexicographic.{slice_cmp}
use Rattle.std.specs.declared.cmp.Ordering.{Ordering}
use Rattle.std.specs.declared.cmp.Ordering.TheVariants.{Less, Equal, Greater}
use Rattle.std.proofs.lemmas.Cmp.{nat_cmp_total, tied_itself}
use Rattle.std.proofs.lemmas.List.{get_or-map, length-map, ext_get_or}
use Rattle.std.proofs.lemmas.List.Sorted.{IsPermutation-refl, length_permutation}
use Rattle.xn_bytes.specs.Parents.{ParentRecord}
use Rattle.xn_bytes.specs.ParentRecords.{IsBefore}
use Rattle.xn_items.specs.declared.parent.ParentRec.{ParentRec}
use Rattle.xn_items.specs.Viewed.{record_of}
use Rattle.xn_names.specs.declared.entry.Naming.{Naming}
use Rattle.xn_names.specs.Names.{asked_by, place_cmp, IsByPlace, HasOneGeneration}
use Rattle.xn_names.proofs.RecordOrder.{record_cmp, record_total, record_alike, record_less, numbers_alike}
use Rattle.xn_names.proofs.SortedAlike.{sorted_map, same_from_permutation}

-- ---- both are sorted

third_tied : (p q r : Ordering) → (p ≡ Equal → r ≡ Equal) → is_lt (ordering_then p q) ≡ false → is_lt (ordering_then p (ordering_then q r)) ≡ false
third_tied Less q r tied back = back
third_tied Equal Less r tied back = back
third_tied Equal Equal r tied back = ap is_lt (tied refl)
third_tied Equal Greater r tied back = refl
third_tied Greater q r tied back = refl

asked_in_order : (a b : Naming) → (b.dir ≡ a.dir → b.generation ≡ a.generation) → is_lt (place_cmp b a) ≡ false → is_lt (record_cmp (asked_by b) (asked_by a)) ≡ false
asked_in_order a b one back =
    third_tied (nat_cmp b.dir a.dir) (slice_cmp nat_cmp b.name a.name) (nat_cmp b.generation a.generation)
    (λ tied. let same : b.generation ≡ a.generation = one (numbers_alike b.dir a.dir tied) in rw same (tied_itself nat_cmp_total a.generation)) back

asked_sorted : (namings : List Naming) → IsByPlace namings → HasOneGeneration namings → IsSortedBy (λ a b. is_lt (record_cmp a b)) (map asked_by namings)
asked_sorted namings placed one =
    sorted_map asked_by (λ a b. is_lt (record_cmp a b)) namings (λ k d from lt.
    asked_in_order (get_or namings k d) (get_or namings (k + 1) d) (λ e. sym (one k (k + 1) d (omega arith) lt (sym e))) (placed k d from lt))

not_after : (a b : ParentRecord) → IsBefore a b → is_lt (record_cmp b a) ≡ false
not_after a b before = ap is_lt (record_total.antisymm b a ∙ ap ordering_reverse (record_less a b before))

rising_sorted : (records : List ParentRecord) → AllAdjacentBelow IsBefore records (length records) → IsSortedBy (λ a b. is_lt (record_cmp a b)) records
rising_sorted records rising k d from lt = not_after (get_or records k d) (get_or records (k + 1) d) (rising k d lt)

-- ---- so they are one list

pub asked_same : (namings : List Naming) (parents : List ParentRec) → IsByPlace namings → HasOneGeneration namings
    → AllAdjacentBelow IsBefore (map record_of parents) (length (map record_of parents)) → IsPermutation (map record_of parents) (map asked_by namings)
    → map record_of parents ≡ map asked_by namings
asked_same namings parents placed one rising moved =
    same_from_permutation record_cmp record_total record_alike (map record_of parents) (map asked_by namings) (rising_sorted (map record_of parents) rising) (asked_sorted namings placed one) moved

-- as many, and at one place alike
pub asked_length : (namings : List Naming) (parents : List ParentRec) → IsPermutation (map record_of parents) (map asked_by namings) → length namings ≡ length parents
asked_length namings parents moved =
    let e = length_permutation (map record_of parents) (map asked_by namings) moved in
    omega (arith, length-map namings asked_by, length-map parents record_of)

pub asked_at : (namings : List Naming) (parents : List ParentRec) (k : ℕ) (d : Naming) (e : ParentRec) → k < length namings → k < length parents
    → map record_of parents ≡ map asked_by namings → asked_by (get_or namings k d) ≡ record_of (get_or parents k e)
asked_at namings parents k d e lt within same =
    sym (get_or-map asked_by namings k d (asked_by d) lt) ∙ sym (ap (λ (xs : List ParentRecord). get_or xs k (asked_by d)) same) ∙ get_or-map record_of parents k e (asked_by d) within

-- and where each is alike they are one
pub asked_permutation : (namings : List Naming) (parents : List ParentRec) → length namings ≡ length parents
    → ((k : ℕ) (d : Naming) (e : ParentRec) → k < length namings → asked_by (get_or namings k d) ≡ record_of (get_or parents k e)) → IsPermutation (map record_of parents) (map asked_by namings)
asked_permutation [] [] long each = IsPermutation-refl []
asked_permutation [] (p ∷ parents) long each = absurd (omega arith)
asked_permutation (n ∷ namings) [] long each = absurd (omega arith)
asked_permutation (n ∷ namings) (p ∷ parents) long each =
    let same : map record_of (p ∷ parents) ≡ map asked_by (n ∷ namings) =
    ext_get_or (asked_by n) (map record_of (p ∷ parents)) (map asked_by (n ∷ namings)) (omega (arith, length-map (n ∷ namings) asked_by, length-map (p ∷ parents) record_of))
    (λ k lt.
    let within : k < length (p ∷ parents) = rw (length-map (p ∷ parents) record_of) at lt in
    get_or-map record_of (p ∷ parents) k p (asked_by n) within ∙ sym (each k n p (omega arith)) ∙ sym (get_or-map asked_by (n ∷ namings) k n (asked_by n) (omega arith))) in
    rw same (IsPermutation-refl (map asked_by (n ∷ namings)))

-- where the directory determines the generation, each directory has its one
pub one_generation_from : (generation : ℕ → ℕ) (namings : List Naming) → All (λ n. n.generation ≡ generation n.dir) namings → HasOneGeneration namings
one_generation_from generation namings all i j d lt within same =
    all i d (omega arith) ∙ ap generation same ∙ sym (all j d within)
