-- What is known when so many records have been read, and the next one begins at the rest.
use Rattle.std.proofs.Common.{◌≡◌, ℕ, suc, ◌+◌, ◌<◌, List, [], ◌∷◌, ◌++◌, drop, sym, ap, subst, ◌∙◌, arith, append_assoc, append-nil, zero-add}
use Rattle.std.specs.Prelude.{◌-◌}
use Rattle.xn_bytes.specs.Extents.{Run, AreRuns, AreRecords, IsRecord, IsFirstBad, run_in, runs_in, end_of_run}

pub record Read (count at least : ℕ) (bytes rest : List ℕ) (runs : List Run) : Type 0 where
  pub records : (left : ℕ) → at + left ≡ count → AreRecords left least rest → AreRecords count 0 bytes
  pub first_bad : (left k : ℕ) → at + left ≡ count → IsFirstBad left least rest k → IsFirstBad count 0 bytes (at + k)
  pub spelt : (left : ℕ) → at + left ≡ count → runs ++ runs_in left rest ≡ runs_in count bytes
  pub rise : (more : List Run) → AreRuns least more → AreRuns 0 (runs ++ more)

pub read_none : (count : ℕ) (bytes : List ℕ) → Read count 0 0 bytes bytes []
read_none count bytes = record {
  records = λ left e h. subst (λ (n : ℕ). AreRecords n 0 bytes) (omega arith) h;
  first_bad = λ left k e h. rw zero-add (subst (λ (n : ℕ). IsFirstBad n 0 bytes k) (omega arith) h);
  spelt = λ left e. ap (λ (n : ℕ). runs_in n bytes) (omega arith);
  rise = λ more h. h;
}

pub read_more : (count at least : ℕ) (bytes rest : List ℕ) (runs : List Run) → Read count at least bytes rest runs → IsRecord least rest
    → Read count (at + 1) (end_of_run (run_in rest)) bytes (drop 16 rest) (runs ++ run_in rest ∷ [])
unfolding runs_in
read_more count at least bytes rest runs r is = record {
  records = λ left e h. r.records (suc left) (omega arith) (is, h);
  first_bad = λ left k e h. subst (λ (n : ℕ). IsFirstBad count 0 bytes n) (omega arith) (r.first_bad (suc left) (suc k) (omega arith) (is, h));
  spelt = λ left e. append_assoc runs (run_in rest ∷ []) (runs_in left (drop 16 rest)) ∙ r.spelt (suc left) (omega arith);
  rise = λ more h. rw append_assoc (r.rise (run_in rest ∷ more) (is.behind, is.some, h));
}

-- the record at the rest is the first that is none
pub read_bad : (count at least : ℕ) (bytes rest : List ℕ) (runs : List Run) → Read count at least bytes rest runs → at < count → (IsRecord least rest → ⊥)
    → IsFirstBad count 0 bytes at
read_bad count at least bytes rest runs r below fails =
    let e : at + suc (count - suc at) ≡ count = omega arith in
    subst (λ (n : ℕ). IsFirstBad count 0 bytes n) (omega arith) (r.first_bad (suc (count - suc at)) 0 e fails)

-- all records are read
pub read_all : (count at least : ℕ) (bytes rest : List ℕ) (runs : List Run) → Read count at least bytes rest runs → at ≡ count
    → AreRecords count 0 bytes × (runs ≡ runs_in count bytes) × AreRuns 0 runs
unfolding runs_in
read_all count at least bytes rest runs r e =
    (r.records 0 (omega arith) tt, sym (append-nil runs) ∙ r.spelt 0 (omega arith), subst (λ (xs : List Run). AreRuns 0 xs) (append-nil runs) (r.rise [] tt))

-- a record has been read, as the code reads it
pub read_step : (count at least : ℕ) (bytes rest : List ℕ) (runs : List Run) (run : Run) (least_after : ℕ) (rest_after : List ℕ) (runs_after : List Run)
    → Read count at least bytes rest runs → IsRecord least rest → run ≡ run_in rest → least_after ≡ end_of_run run → rest_after ≡ drop 16 rest
    → runs_after ≡ runs ++ run ∷ [] → Read count (at + 1) least_after bytes rest_after runs_after
read_step count at least bytes rest runs run least_after rest_after runs_after r is e1 e2 e3 e4 =
    rw (e4, e3, e2, e1) (read_more count at least bytes rest runs r is)
