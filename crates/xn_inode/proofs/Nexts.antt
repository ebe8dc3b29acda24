-- The next file block that is mapped: it stands in the first run that ends behind where the search begins.
use Rattle.std.proofs.Common.{◌≡◌, ℕ, zero, suc, ◌+◌, ◌<◌, ◌≤◌, List, [], ◌∷◌, length, get_or, sym, subst, ap, ◌∙◌, arith}
use Rattle.std.specs.Prelude.{◌-◌, Option, Some, None, IfSome, slice_get, max}
use Rattle.std.proofs.lemmas.Grind.{common_steps}
use Rattle.std.proofs.lemmas.Bool.Decides.{nat_tests}
use Rattle.xn_bytes.specs.Extents.{Run, AreRuns, mapped, end_of_run}
use Rattle.xn_inode.specs.Lists.{IsNextMapped, IsPlace, mapped_by}
use Rattle.xn_inode.proofs.Runs.{at_index}

-- no run is empty
pub some_at : (least : ℕ) (runs : List Run) → AreRuns least runs → (j : ℕ) (d : Run) → j < length runs → 0 < (get_or runs j d).count
some_at least [] rise j d h = absurd (omega arith)
some_at least (run ∷ runs) rise zero d h = rise.1
some_at least (run ∷ runs) rise (suc j) d h = some_at (end_of_run run) runs rise.2 j d (omega arith)

-- the run that is found for a file block
pub record Found (runs : List Run) (from : ℕ) (run : Run) : Type 0 where
  pub behind : from < end_of_run run
  pub some : 0 < run.count
  pub maps : (other : ℕ) → from ≤ other → other < end_of_run run → mapped runs other ≡ mapped_by (Some run) other

pub found_at : (runs items : List Run) (at from : ℕ) (run : Run) → AreRuns 0 runs → items ≡ runs → IsPlace runs from at
    → at < length items → run ≡ get_or items at run → Found runs from run
found_at runs items at from run rise same place h is =
    let got : slice_get runs at ≡ Some run = ap (λ (xs : List Run). slice_get xs at) (sym same) ∙ at_index items at run h is in
    let risen : AreRuns 0 items = subst (λ (xs : List Run). AreRuns 0 xs) (sym same) rise in
    record {
      behind = subst (λ (o : Option Run). IfSome o (λ r. from < end_of_run r)) got place.behind;
      some = subst (λ (r : Run). 0 < r.count) (sym is) (some_at 0 items risen at run h);
      maps = λ other high low.
          place.maps other high (subst (λ (o : Option Run). IfSome o (λ r. other < end_of_run r)) (sym got) low)
          ∙ ap (λ (o : Option Run). mapped_by o other) got;
    }

-- between where the search begins and the run's first file block from there on nothing is mapped
pub none_before : (runs : List Run) (from file_block : ℕ) (run : Run) → Found runs from run → file_block ≡ max run.file_block from
    → (other : ℕ) → from ≤ other → other < file_block → mapped runs other ≡ None
none_before runs from file_block run found greatest other high low =
    let before : other < run.file_block = omega (arith, greatest) in
    let by : mapped_by (Some run) other ≡ None = grind (arith, nat_tests, common_steps) in
    found.maps other high (omega arith) ∙ by

pub is_next : (runs : List Run) (from limit file_block : ℕ) (run : Run) → Found runs from run → file_block ≡ max run.file_block from
    → file_block < limit → IsNextMapped runs from limit file_block (run.block + (file_block - run.file_block))
is_next runs from limit file_block run found greatest below =
    let behind : from < end_of_run run = found.behind in
    let some : 0 < run.count = found.some in
    let high : from ≤ file_block = omega (arith, greatest) in
    let within : file_block < end_of_run run = omega (arith, greatest) in
    let start : run.file_block ≤ file_block = omega (arith, greatest) in
    let by : mapped_by (Some run) file_block ≡ Some (run.block + (file_block - run.file_block)) = grind (arith, nat_tests, common_steps) in
    record {
      at_least = high;
      below = below;
      there = found.maps file_block high within ∙ by;
      first = none_before runs from file_block run found greatest;
    }
