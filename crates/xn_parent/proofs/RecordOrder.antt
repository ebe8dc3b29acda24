-- The order of parent records.
use Rattle.std.proofs.Common.{◌≡◌, ℕ, ◌<◌, List, refl, sym, ap, ◌∙◌, inl, inr}
use Rattle.std.specs.Prelude.{◌⊎◌}
use Rattle.std.specs.Ordering.{nat_cmp, is_eq, ordering_then}
use Rattle.std.specs.Cmp.{IsTotalOrder}
use Rattle.std.specs.Cmp.Lexicographic.{slice_cmp, nat_list_cmp_total}
use Rattle.std.specs.declared.cmp.Ordering.{Ordering}
use Rattle.std.specs.declared.cmp.Ordering.TheVariants.{Less, Equal, Greater}
use Rattle.std.proofs.lemmas.Cmp.{ranked, nat_cmp_total, on_total, then_total}
use Rattle.std.proofs.lemmas.Map.Text.{is_eq-slice_cmp}
use Rattle.std.proofs.lemmas.Slice.Eq.{bytes_eq-Decides}
use Rattle.xn_bytes.specs.Parents.{ParentRecord}
use Rattle.xn_bytes.specs.ParentRecords.{IsBefore}
use Rattle.xn_parent.specs.Order.{record_cmp}

pub record_total : IsTotalOrder record_cmp
record_total =
    then_total (on_total (λ (r : ParentRecord). r.dir) nat_cmp_total)
    (then_total (on_total (λ (r : ParentRecord). r.name) nat_list_cmp_total) (on_total (λ (r : ParentRecord). r.generation) nat_cmp_total))

-- ---- what an answer says

then_equal : (a b : Ordering) → ordering_then a b ≡ Equal → (a ≡ Equal) × (b ≡ Equal)
then_equal Less b e = absurd cc
then_equal Equal b e = (refl, e)
then_equal Greater b e = absurd cc

then_less : (a b : Ordering) → ordering_then a b ≡ Less → (a ≡ Less) ⊎ ((a ≡ Equal) × (b ≡ Less))
then_less Less b e = inl refl
then_less Equal b e = inr (refl, e)
then_less Greater b e = absurd cc

numbers_alike : (m n : ℕ) → nat_cmp m n ≡ Equal → m ≡ n
numbers_alike m n e = ranked m n Equal (sym e)

number_before : (m n : ℕ) → nat_cmp m n ≡ Less → m < n
number_before m n e = ranked m n Less (sym e)

names_alike : (xs ys : List ℕ) → slice_cmp nat_cmp xs ys ≡ Equal → xs ≡ ys
names_alike xs ys e = (bytes_eq-Decides xs ys).0 (sym (is_eq-slice_cmp xs ys) ∙ ap is_eq e)

abbrev made : ℕ → List ℕ → ℕ → ParentRecord
made dir name generation = record { dir = dir; generation = generation; name = name }

-- records that compare alike are one
pub record_alike : (a b : ParentRecord) → record_cmp a b ≡ Equal → a ≡ b
record_alike a b e =
    let by_dir = then_equal (nat_cmp a.dir b.dir) (ordering_then (slice_cmp nat_cmp a.name b.name) (nat_cmp a.generation b.generation)) e in
    let by_name = then_equal (slice_cmp nat_cmp a.name b.name) (nat_cmp a.generation b.generation) by_dir.1 in
    ap (λ (dir : ℕ). made dir a.name a.generation) (numbers_alike a.dir b.dir by_dir.0)
    ∙ ap (λ (name : List ℕ). made b.dir name a.generation) (names_alike a.name b.name by_name.0)
    ∙ ap (made b.dir b.name) (numbers_alike a.generation b.generation by_name.1)

pub record_before : (a b : ParentRecord) → record_cmp a b ≡ Less → IsBefore a b
record_before a b e =
    elim (then_less (nat_cmp a.dir b.dir) (ordering_then (slice_cmp nat_cmp a.name b.name) (nat_cmp a.generation b.generation)) e) [
      | inl less ↦ inl (number_before a.dir b.dir less)
      | inr same ↦ let dir = numbers_alike a.dir b.dir same.0 in elim (then_less (slice_cmp nat_cmp a.name b.name) (nat_cmp a.generation b.generation) same.1) [
        | inl less ↦ inr (inl (dir, less))
        | inr alike ↦ inr (inr (dir, names_alike a.name b.name alike.0, number_before a.generation b.generation alike.1))
      ]
    ]
