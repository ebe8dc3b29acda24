-- The order of parent records: by directory, then by the bytes of the name, then by the generation.
use Rattle.std.proofs.Common.{◌≡◌, ℕ, ◌<◌, List, refl, sym, ap, ◌∙◌, inl, inr, arith}
use Rattle.std.specs.Ordering.{nat_cmp, is_eq, ordering_then}
use Rattle.std.specs.Cmp.{IsTotalOrder}
use Rattle.std.specs.Cmp.Lexicographic.{slice_cmp, nat_list_cmp_total}
use Rattle.std.specs.declared.cmp.Ordering.{Ordering}
use Rattle.std.specs.declared.cmp.Ordering.TheVariants.{Less, Equal, Greater}
use Rattle.std.proofs.lemmas.Cmp.{ranked, nat_cmp_total, on_total, then_total, tied_itself}
use Rattle.std.proofs.lemmas.Map.Text.{is_eq-slice_cmp}
use Rattle.std.proofs.lemmas.Slice.Eq.{bytes_eq-Decides}
use Rattle.xn_bytes.specs.Parents.{ParentRecord}
use Rattle.xn_bytes.specs.ParentRecords.{IsBefore}

abbrev pub record_cmp : ParentRecord → ParentRecord → Ordering
record_cmp a b = ordering_then (nat_cmp a.dir b.dir) (ordering_then (slice_cmp nat_cmp a.name b.name) (nat_cmp a.generation b.generation))

pub record_total : IsTotalOrder record_cmp
record_total =
    then_total (on_total (λ (r : ParentRecord). r.dir) nat_cmp_total)
    (then_total (on_total (λ (r : ParentRecord). r.name) nat_list_cmp_total) (on_total (λ (r : ParentRecord). r.generation) nat_cmp_total))

-- ---- what an answer says

then_equal : (a b : Ordering) → ordering_then a b ≡ Equal → (a ≡ Equal) × (b ≡ Equal)
then_equal Less b e = absurd cc
then_equal Equal b e = (refl, e)
then_equal Greater b e = absurd cc

pub numbers_alike : (m n : ℕ) → nat_cmp m n ≡ Equal → m ≡ n
numbers_alike m n e = ranked m n Equal (sym e)

names_alike : (xs ys : List ℕ) → slice_cmp nat_cmp xs ys ≡ Equal → xs ≡ ys
names_alike xs ys e = (bytes_eq-Decides xs ys).0 (sym (is_eq-slice_cmp xs ys) ∙ ap is_eq e)

abbrev made : ℕ → List ℕ → ℕ → ParentRecord
made dir name generation = record { dir = dir; generation = generation; name = name }

-- records that compare alike are one
pub record_alike : (a b : ParentRecord) → record_cmp a b ≡ Equal → a ≡ b
record_alike a b e =
    let by_dir = then_equal (nat_cmp a.dir b.dir) (ordering_then (slice_cmp nat_cmp a.name b.name) (nat_cmp a.generation b.generation)) e in
    let by_name = then_equal (slice_cmp nat_cmp a.name b.name) (nat_cmp a.generation b.generation) by_dir.1 in
    ap (λ (dir : ℕ). made dir a.name a.generation) (numbers_alike a.dir b.dir by_dir.0)
    ∙ ap (λ (name : List ℕ). made b.dir name a.generation) (names_alike a.name b.name by_name.0)
    ∙ ap (made b.dir b.name) (numbers_alike a.generation b.generation by_name.1)

-- one that comes before another is not after it
number_less : (m n : ℕ) → m < n → nat_cmp m n ≡ Less
number_less m n lt = grind (arith, nat_cmp)

pub record_less : (a b : ParentRecord) → IsBefore a b → record_cmp a b ≡ Less
record_less a b (inl dir) = rw (number_less a.dir b.dir dir) refl
record_less a b (inr (inl (dir, name))) = rw (dir, tied_itself nat_cmp_total b.dir, name) refl
record_less a b (inr (inr (dir, name, generation))) = rw (dir, tied_itself nat_cmp_total b.dir, name, tied_itself nat_list_cmp_total b.name) (number_less a.generation b.generation generation)
