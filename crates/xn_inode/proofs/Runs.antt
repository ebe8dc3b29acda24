-- A file block's run among runs in order, searched by the runs' ends.
use Rattle.std.proofs.Common.{◌≡◌, ℕ, zero, suc, ◌+◌, ◌<◌, ◌≤◌, List, [], ◌∷◌, length, get_or, refl, sym, ap, ◌∙◌, arith, leb, leb-true, leb-false, true, false}
use Rattle.std.specs.Prelude.{◌-◌, Option, Some, None, IfSome, slice_get}
use Rattle.std.proofs.lemmas.Grind.{common_steps}
use Rattle.std.proofs.lemmas.Bool.Decides.{nat_tests}
use Rattle.std.specs.List.Sorted.{IsNonDecreasingBy, IsPartitionPoint}
use Rattle.xn_bytes.specs.Extents.{Run, AreRuns, mapped, end_of_run}
use Rattle.xn_inode.specs.Lists.{IsPlace, mapped_by}

-- a file block before the first run is mapped to none
pub before_all : (least file_block : ℕ) (runs : List Run) → AreRuns least runs → file_block < least → mapped runs file_block ≡ None
before_all least file_block [] rise h = refl
before_all least file_block (run ∷ runs) rise h =
    let low : least ≤ run.file_block = rise.0 in
    let rest : mapped runs file_block ≡ None = before_all (end_of_run run) file_block runs rise.2 (omega arith) in
    grind (arith, nat_tests, common_steps, rest)

-- each run ends behind `least`
all_behind : (least : ℕ) (runs : List Run) → AreRuns least runs → (j : ℕ) (d : Run) → j < length runs → least ≤ end_of_run (get_or runs j d)
all_behind least [] rise j d h = absurd (omega arith)
all_behind least (run ∷ runs) rise zero d h = let low : least ≤ run.file_block = rise.0 in omega arith
all_behind least (run ∷ runs) rise (suc j) d h =
    let low : least ≤ run.file_block = rise.0 in
    let rest : end_of_run run ≤ end_of_run (get_or runs j d) = all_behind (end_of_run run) runs rise.2 j d (omega arith) in
    omega arith

-- the ends rise
pub ends_rise : (least : ℕ) (runs : List Run) → AreRuns least runs → IsNonDecreasingBy end_of_run runs
ends_rise least [] rise i j d h below = absurd (omega arith)
ends_rise least (run ∷ runs) rise zero zero d h below = omega arith
ends_rise least (run ∷ runs) rise zero (suc j) d h below = all_behind (end_of_run run) runs rise.2 j d (omega arith)
ends_rise least (run ∷ runs) rise (suc i) zero d h below = absurd (omega arith)
ends_rise least (run ∷ runs) rise (suc i) (suc j) d h below = ends_rise (end_of_run run) runs rise.2 i j d (omega arith) (omega arith)

-- from a file block on, the first run that ends behind it maps what stands in front of its end
mapped_at : (runs : List Run) (least i from other : ℕ) → AreRuns least runs
    → ((k : ℕ) (d : Run) → k < i → k < length runs → end_of_run (get_or runs k d) ≤ from)
    → from ≤ other → IfSome (slice_get runs i) (λ run. other < end_of_run run)
    → mapped runs other ≡ mapped_by (slice_get runs i) other
mapped_at [] least zero from other rise before high within = refl
mapped_at [] least (suc i) from other rise before high within = refl
mapped_at (run ∷ runs) least zero from other rise before high within =
    let rest : mapped runs other ≡ None = before_all (end_of_run run) other runs rise.2 within in
    rw rest refl
mapped_at (run ∷ runs) least (suc i) from other rise before high within =
    let ends : end_of_run run ≤ from = before 0 run (omega arith) (omega arith) in
    let rest : mapped runs other ≡ mapped_by (slice_get runs i) other =
    mapped_at runs (end_of_run run) i from other rise.2 (λ k d h1 h2. before (suc k) d (omega arith) (omega arith)) high within in
    grind (arith, nat_tests, common_steps, rest)

-- what holds of the run at an index, if there is one
pub if_at : (P : Run → Type 0) (runs : List Run) (i : ℕ) → ((d : Run) → i < length runs → P (get_or runs i d)) → IfSome (slice_get runs i) P
if_at P [] zero h = tt
if_at P [] (suc i) h = tt
if_at P (run ∷ runs) zero h = h run (omega arith)
if_at P (run ∷ runs) (suc i) h = if_at P runs i (λ d below. h d (omega arith))

-- the same at what a binary search by the ends answers
pub searched : (runs : List Run) (at file_block : ℕ) → AreRuns 0 runs
    → IsPartitionPoint (λ run. leb (end_of_run run) file_block ≡ true) (λ run. leb (end_of_run run) file_block ≡ false) runs at
    → IsPlace runs file_block at
searched runs at file_block rise point = record {
  behind = if_at (λ run. file_block < end_of_run run) runs at (λ d h. leb-false _ _ (point.1 at d (omega arith) h));
  maps = λ other high within.
      mapped_at runs 0 at file_block other rise (λ k d h below. leb-true _ _ (point.0 k d (omega arith) h)) high within;
}

-- what is got at an index, and past the end
pub at_index : (runs : List Run) (i : ℕ) (run : Run) → i < length runs → run ≡ get_or runs i run → slice_get runs i ≡ Some run
at_index [] i run h e = absurd (omega arith)
at_index (first ∷ runs) zero run h e = ap Some (sym e)
at_index (first ∷ runs) (suc i) run h e = at_index runs i run (omega arith) e

past_end : (runs : List Run) (i : ℕ) → length runs ≤ i → slice_get runs i ≡ None
past_end [] zero h = refl
past_end [] (suc i) h = refl
past_end (run ∷ runs) zero h = absurd (omega arith)
past_end (run ∷ runs) (suc i) h = past_end runs i (omega arith)

-- the answer, where that run holds the file block, where it doesn't, and where there is none
pub found : (runs items : List Run) (at file_block : ℕ) (run : Run) → items ≡ runs → mapped runs file_block ≡ mapped_by (slice_get runs at) file_block
    → at < length items → run ≡ get_or items at run → run.file_block ≤ file_block → file_block < end_of_run run
    → Some (run.block + (file_block - run.file_block)) ≡ mapped runs file_block
found runs items at file_block run same e h is low high =
    let by : mapped_by (Some run) file_block ≡ Some (run.block + (file_block - run.file_block)) = grind (arith, nat_tests, common_steps) in
    sym (e ∙ ap (λ (xs : List Run). mapped_by (slice_get xs at) file_block) (sym same)
    ∙ ap (λ (o : Option Run). mapped_by o file_block) (at_index items at run h is) ∙ by)

pub outside : (runs items : List Run) (at file_block : ℕ) (run : Run) → items ≡ runs → mapped runs file_block ≡ mapped_by (slice_get runs at) file_block
    → at < length items → run ≡ get_or items at run → ((run.file_block ≤ file_block) × (file_block < end_of_run run) → ⊥)
    → None ≡ mapped runs file_block
outside runs items at file_block run same e h is fails =
    let by : mapped_by (Some run) file_block ≡ None = grind (arith, nat_tests, common_steps) in
    sym (e ∙ ap (λ (xs : List Run). mapped_by (slice_get xs at) file_block) (sym same)
    ∙ ap (λ (o : Option Run). mapped_by o file_block) (at_index items at run h is) ∙ by)

pub behind_all : (runs items : List Run) (at file_block : ℕ) → items ≡ runs → mapped runs file_block ≡ mapped_by (slice_get runs at) file_block
    → length items ≤ at → None ≡ mapped runs file_block
behind_all runs items at file_block same e h =
    sym (e ∙ ap (λ (xs : List Run). mapped_by (slice_get xs at) file_block) (sym same)
    ∙ ap (λ (o : Option Run). mapped_by o file_block) (past_end items at h))
