-- What the first bad record of a list says.
use Rattle.std.proofs.Common.{ℕ, zero, suc, List, drop}
use Rattle.xn_bytes.specs.Extents.{AreRecords, IsFirstBad, run_in, end_of_run}

-- a first bad record is in no list of records
pub bad_is_none : (count least : ℕ) (bytes : List ℕ) (at : ℕ) → IsFirstBad count least bytes at → AreRecords count least bytes → ⊥
bad_is_none zero least bytes at bad records = bad
bad_is_none (suc count) least bytes zero bad records = bad records.0
bad_is_none (suc count) least bytes (suc at) bad records = bad_is_none count (end_of_run (run_in bytes)) (drop 16 bytes) at bad.1 records.1
