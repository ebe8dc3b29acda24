-- A list of runs that maps file block 0 alone, and a list of which each block is one that a fork may map.
use Rattle.std.proofs.Common.{◌≡◌, ℕ, ◌+◌, ◌<◌, ◌≤◌, List, [], ◌∷◌, length, refl, sym, ap, ◌∙◌, arith, inl, inr}
use Rattle.std.specs.Prelude.{◌-◌, Option, Some, None, slice_get}
use Rattle.std.proofs.lemmas.Bool.{cases_eq}
use Rattle.std.proofs.lemmas.Grind.{common_steps}
use Rattle.std.proofs.lemmas.Bool.Decides.{nat_tests}
use Rattle.std.proofs.lemmas.Option.{get_or_from_slice_get}
use Rattle.xn_bytes.specs.Extents.{Run, AreRuns, mapped, end_of_run}
use Rattle.xn_bytes.specs.DirectoryForms.{IsBlockForm}

-- ---- file block 0 alone

mapped_in : (run : Run) (runs : List Run) (file_block : ℕ) → run.file_block ≤ file_block → file_block < end_of_run run → mapped (run ∷ runs) file_block ≡ Some (run.block + (file_block - run.file_block))
mapped_in run runs file_block low high = grind (arith, nat_tests, common_steps)

mapped_past : (run : Run) (runs : List Run) (file_block : ℕ) → end_of_run run ≤ file_block → mapped (run ∷ runs) file_block ≡ mapped runs file_block
mapped_past run runs file_block past = grind (arith, nat_tests, common_steps)

not_some : {X : Type 0} (o : Option X) (x : X) → o ≡ None → o ≡ Some x → ⊥
not_some o x none some = let e = sym none ∙ some in absurd cc

pub one_run : (runs : List Run) (block : ℕ) → length runs ≡ 1 → slice_get runs 0 ≡ Some (record { file_block = 0; block = block; count = 1 }) → IsBlockForm runs block
one_run [] block one first = absurd (omega arith)
one_run (run ∷ []) block one first =
    let is : run ≡ record { file_block = 0; block = block; count = 1 } = get_or_from_slice_get (run ∷ []) 0 (record { file_block = 0; block = block; count = 1 }) run first in
    rw is (record {
      first = mapped_in (record { file_block = 0; block = block; count = 1 }) [] 0 (omega arith) (omega arith) ∙ ap Some (omega arith);
      alone = λ file_block other. mapped_past (record { file_block = 0; block = block; count = 1 }) [] file_block (omega arith);
    })
one_run (run ∷ next ∷ runs) block one first = absurd (omega arith)

-- what maps file block 0 alone is one run of one block
record IsOneRun (runs : List Run) (block : ℕ) : Type 0 where
  one : length runs ≡ 1
  file_block : (run : Run) → slice_get runs 0 ≡ Some run → run.file_block ≡ 0
  count : (run : Run) → slice_get runs 0 ≡ Some run → run.count ≡ 1

begins_at_0 : (run : Run) (runs : List Run) (block : ℕ) → 0 < run.count → IsBlockForm (run ∷ runs) block → run.file_block ≡ 0
begins_at_0 run runs block some alone = elim (cases_eq run.file_block 0) [
  | inl e ↦ e
  | inr other ↦ absurd (not_some _ _ (alone.alone run.file_block other) (mapped_in run runs run.file_block (omega arith) (omega arith)))
]

has_one : (run : Run) (runs : List Run) (block : ℕ) → 0 < run.count → run.file_block ≡ 0 → IsBlockForm (run ∷ runs) block → run.count ≡ 1
has_one run runs block some zero_first alone = elim (cases_eq run.count 1) [
  | inl e ↦ e
  | inr other ↦ absurd (not_some _ _ (alone.alone 1 (omega arith)) (mapped_in run runs 1 (omega arith) (omega arith)))
]

is_one_run : (runs : List Run) (block : ℕ) → AreRuns 0 runs → IsBlockForm runs block → IsOneRun runs block
is_one_run [] block rise alone = absurd (not_some _ _ refl alone.first)
is_one_run (run ∷ []) block rise alone =
    let begins = begins_at_0 run [] block rise.1 alone in
    let same : (other : Run) → slice_get (run ∷ []) 0 ≡ Some other → run ≡ other = λ other is. get_or_from_slice_get (run ∷ []) 0 other run is in
    record {
      one = refl;
      file_block = λ other is. ap (λ (r : Run). r.file_block) (sym (same other is)) ∙ begins;
      count = λ other is. ap (λ (r : Run). r.count) (sym (same other is)) ∙ has_one run [] block rise.1 begins alone;
    }
is_one_run (run ∷ next ∷ runs) block rise alone =
    let behind : end_of_run run ≤ next.file_block = rise.2.0 in
    let some : 0 < next.count = rise.2.1 in
    absurd (not_some _ _ (alone.alone next.file_block (omega (arith, rise.1)))
    (mapped_past run (next ∷ runs) next.file_block behind ∙ mapped_in next runs next.file_block (omega arith) (omega arith)))

pub not_one : (runs : List Run) → AreRuns 0 runs → (length runs ≡ 1 → ⊥) → (block : ℕ) → IsBlockForm runs block → ⊥
not_one runs rise many block alone = many (is_one_run runs block rise alone).one

pub not_first : (runs : List Run) (file_block at count : ℕ) → AreRuns 0 runs → slice_get runs 0 ≡ Some (record { file_block = file_block; block = at; count = count })
    → ((file_block ≡ 0) × (count ≡ 1) → ⊥) → (block : ℕ) → IsBlockForm runs block → ⊥
not_first runs file_block at count rise first other block alone =
    let one = is_one_run runs block rise alone in
    other (one.file_block _ first, one.count _ first)
