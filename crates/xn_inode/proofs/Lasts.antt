-- The last run that begins below a limit, and the last of all.
use Rattle.std.proofs.Common.{◌≡◌, ℕ, zero, suc, ◌+◌, ◌<◌, ◌≤◌, List, [], ◌∷◌, length, get_or, refl, sym, subst, ◌∙◌, arith, ltb, ltb-true, ltb-false, true, false, rules}
use Rattle.std.specs.Prelude.{◌-◌, Option, Some, None, IsSome, min}
use Rattle.std.proofs.lemmas.Grind.{common_steps}
use Rattle.std.proofs.lemmas.Bool.Decides.{nat_tests}
use Rattle.std.specs.List.Sorted.{IsNonDecreasingBy, IsPartitionPoint}
use Rattle.xn_bytes.specs.Extents.{Run, AreRuns, mapped, end_of_run}
use Rattle.xn_inode.specs.Lists.{IsLastMapped, IsLastRun, mapped_by}
use Rattle.xn_inode.proofs.Runs.{before_all}
use Rattle.xn_inode.proofs.Nexts.{some_at}

-- each run begins at or behind `least`
begin_behind : (least : ℕ) (runs : List Run) → AreRuns least runs → (j : ℕ) (d : Run) → j < length runs → least ≤ (get_or runs j d).file_block
begin_behind least [] rise j d h = absurd (omega arith)
begin_behind least (run ∷ runs) rise zero d h = rise.0
begin_behind least (run ∷ runs) rise (suc j) d h =
    let low : least ≤ run.file_block = rise.0 in
    let rest : end_of_run run ≤ (get_or runs j d).file_block = begin_behind (end_of_run run) runs rise.2 j d (omega arith) in
    omega arith

-- the runs' first file blocks rise
pub starts_rise : (least : ℕ) (runs : List Run) → AreRuns least runs → IsNonDecreasingBy (λ run. run.file_block) runs
starts_rise least [] rise i j d h below = absurd (omega arith)
starts_rise least (run ∷ runs) rise zero zero d h below = omega arith
starts_rise least (run ∷ runs) rise zero (suc j) d h below =
    let rest : end_of_run run ≤ (get_or runs j d).file_block = begin_behind (end_of_run run) runs rise.2 j d (omega arith) in
    omega arith
starts_rise least (run ∷ runs) rise (suc i) zero d h below = absurd (omega arith)
starts_rise least (run ∷ runs) rise (suc i) (suc j) d h below = starts_rise (end_of_run run) runs rise.2 i j d (omega arith) (omega arith)

-- where each run begins at a limit or behind, nothing below it is mapped
none_below : (runs : List Run) (least limit : ℕ) → AreRuns least runs → ((k : ℕ) (d : Run) → k < length runs → limit ≤ (get_or runs k d).file_block)
    → (other : ℕ) → other < limit → mapped runs other ≡ None
none_below [] least limit rise behind other low = refl
none_below (run ∷ runs) least limit rise behind other low =
    let first : limit ≤ run.file_block = behind 0 run (omega arith) in
    before_all run.file_block other (run ∷ runs) (omega arith, rise.1, rise.2) (omega arith)

-- the run at an index, where those up to it begin below the limit, and those behind it don't
last_at : (runs : List Run) (least at limit : ℕ) (d : Run) → AreRuns least runs → at < length runs
    → ((k : ℕ) (d : Run) → k ≤ at → k < length runs → (get_or runs k d).file_block < limit)
    → ((k : ℕ) (d : Run) → at < k → k < length runs → limit ≤ (get_or runs k d).file_block)
    → IsLastRun runs limit (get_or runs at d)
last_at [] least at limit d rise h before behind = absurd (omega arith)
last_at (run ∷ runs) least zero limit d rise h before behind = record {
  below = before 0 d (omega arith) h;
  some = rise.1;
  maps = λ other high low.
      let rest : mapped runs other ≡ None =
      none_below runs (end_of_run run) limit rise.2 (λ k e below. behind (suc k) e (omega arith) (omega arith)) other low in
      rw rest refl;
}
last_at (run ∷ runs) least (suc at) limit d rise h before behind =
    let last : IsLastRun runs limit (get_or runs at d) =
    last_at runs (end_of_run run) at limit d rise.2 (omega arith)
    (λ k e h1 h2. before (suc k) e (omega arith) (omega arith)) (λ k e h1 h2. behind (suc k) e (omega arith) (omega arith)) in
    let begins : end_of_run run ≤ (get_or runs at d).file_block = begin_behind (end_of_run run) runs rise.2 at d (omega arith) in
    record {
      below = last.below;
      some = last.some;
      maps = λ other high low.
          let rest : mapped runs other ≡ mapped_by (Some (get_or runs at d)) other = last.maps other high low in
          let past : end_of_run run ≤ other = omega arith in
          let skips : mapped (run ∷ runs) other ≡ mapped runs other = grind (arith, nat_tests, common_steps) in
          skips ∙ rest;
    }

-- the same by what a binary search by the runs' first file blocks answers
pub last_searched : (runs items : List Run) (count at limit : ℕ) (run : Run) → AreRuns 0 runs → items ≡ runs
    → IsPartitionPoint (λ run. ltb run.file_block limit ≡ true) (λ run. ltb run.file_block limit ≡ false) items count
    → count ≡ suc at → at < length items → run ≡ get_or items at run → IsLastRun runs limit run
last_searched runs items count at limit run rise same point next h is =
    let risen : AreRuns 0 items = subst (λ (xs : List Run). AreRuns 0 xs) (sym same) rise in
    subst (λ (r : Run). IsLastRun runs limit r) (sym is) (subst (λ (xs : List Run). IsLastRun xs limit (get_or items at run)) same
    (last_at items 0 at limit run risen h
    (λ k e h1 h2. ltb-true _ _ (point.0 k e (omega arith) (omega arith)))
    (λ k e h1 h2. ltb-false _ _ (point.1 k e (omega arith) h2))))

pub none_searched : (runs items : List Run) (count limit : ℕ) → AreRuns 0 runs → items ≡ runs
    → IsPartitionPoint (λ run. ltb run.file_block limit ≡ true) (λ run. ltb run.file_block limit ≡ false) items count
    → count ≡ 0 → (other : ℕ) → other < limit → mapped runs other ≡ None
none_searched runs items count limit rise same point none other low =
    let risen : AreRuns 0 items = subst (λ (xs : List Run). AreRuns 0 xs) (sym same) rise in
    subst (λ (xs : List Run). mapped xs other ≡ None) same
    (none_below items 0 limit risen (λ k e h. ltb-false _ _ (point.1 k e (omega arith) h)) other low)

-- the last run is the last that begins below any limit at or behind its end
pub last_of : (runs items : List Run) (limit : ℕ) (run : Run) → AreRuns 0 runs → items ≡ runs → 0 < length items
    → ((d : Run) → run ≡ get_or items (length items - 1) d) → end_of_run run ≤ limit → IsLastRun runs limit run
last_of runs items limit run rise same some is ends =
    let risen : AreRuns 0 items = subst (λ (xs : List Run). AreRuns 0 xs) (sym same) rise in
    subst (λ (r : Run). IsLastRun runs limit r) (sym (is run)) (subst (λ (xs : List Run). IsLastRun xs limit (get_or items (length items - 1) run)) same
    (last_at items 0 (length items - 1) limit run risen (omega arith)
    (λ k e h1 h2.
    let rises : (get_or items k e).file_block ≤ (get_or items (length items - 1) e).file_block = starts_rise 0 items risen k (length items - 1) e h1 (omega arith) in
    let begins : (get_or items k e).file_block ≤ run.file_block = subst (λ (r : Run). (get_or items k e).file_block ≤ r.file_block) (sym (is e)) rises in
    let filled : 0 < run.count = subst (λ (r : Run). 0 < r.count) (sym (is e)) (some_at 0 items risen (length items - 1) e (omega arith)) in
    omega arith)
    (λ k e h1 h2. absurd (omega arith))))

-- the last file block of the last run that begins below a limit
pub is_last : (runs : List Run) (limit ends last : ℕ) (run : Run) → IsLastRun runs limit run → ends ≡ end_of_run run → last ≡ min ends limit - 1
    → IsLastMapped runs limit last
is_last runs limit ends last run lasts is least =
    let begins : run.file_block < limit = lasts.below in
    let some : 0 < run.count = lasts.some in
    let high : run.file_block ≤ last = omega (arith, is, least) in
    let low : last < limit = omega (arith, is, least) in
    let within : last < end_of_run run = omega (arith, is, least) in
    let by : mapped_by (Some run) last ≡ Some (run.block + (last - run.file_block)) = grind (arith, nat_tests, common_steps) in
    record {
      below = low;
      there = subst (λ (o : Option ℕ). IsSome o) (sym (lasts.maps last high low ∙ by)) (search rules);
      last = λ other above below.
          let past : end_of_run run ≤ other = omega (arith, is, least) in
          let by_none : mapped_by (Some run) other ≡ None = grind (arith, nat_tests, common_steps) in
          lasts.maps other (omega arith) below ∙ by_none;
    }

-- behind the end of the last run nothing is mapped, and in front of it its last file block
pub none_behind : (runs : List Run) (ends : ℕ) (run : Run) → ((limit : ℕ) → end_of_run run ≤ limit → IsLastRun runs limit run) → ends ≡ end_of_run run
    → (other : ℕ) → ends ≤ other → mapped runs other ≡ None
none_behind runs ends run lasts is other high =
    let past : end_of_run run ≤ other = omega (arith, is) in
    let by : mapped_by (Some run) other ≡ None = grind (arith, nat_tests, common_steps) in
    (lasts (suc other) (omega arith)).maps other (omega arith) (omega arith) ∙ by

pub some_in_front : (runs : List Run) (ends : ℕ) (run : Run) → ((limit : ℕ) → end_of_run run ≤ limit → IsLastRun runs limit run) → ends ≡ end_of_run run
    → IsSome (mapped runs (ends - 1))
some_in_front runs ends run lasts is =
    let last = is_last runs ends ends (ends - 1) run (lasts ends (omega (arith, is))) is (omega arith) in
    last.there
