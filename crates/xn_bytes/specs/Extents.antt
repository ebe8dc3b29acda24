-- Lists of extents (`xfs_bmbt_rec` of `xfs_format.h`), and the map from file block to block that a list spells.
use Rattle.std.specs.Prelude.{◌≡◌, ℕ, zero, suc, ◌+◌, ◌-◌, ◌*◌, ◌/◌, ◌%◌, ◌^◌, ◌<◌, ◌≤◌, ◌&&◌, nat_le, nat_lt, if◌then◌else◌, List, [], ◌∷◌, length, drop, Option, Some, None}
use Rattle.xn_bytes.specs.Numbers.{number_at}

-- so many blocks, from a file block and from a block on
pub record Run : Type 0 where
  pub file_block : ℕ
  pub block : ℕ
  pub count : ℕ

-- A record has 128 bits: a flag, 54 bits of the file block, 52 of the block, 21 of the count.
abbrev pub flag_in : List ℕ → ℕ
flag_in record_bytes = number_at 8 0 record_bytes / 2 ^ 63

abbrev pub run_in : List ℕ → Run
run_in record_bytes = record {
  file_block = number_at 8 0 record_bytes / 2 ^ 9 % 2 ^ 54;
  block = number_at 8 0 record_bytes % 2 ^ 9 * 2 ^ 43 + number_at 8 8 record_bytes / 2 ^ 21;
  count = number_at 8 8 record_bytes % 2 ^ 21;
}

-- the file block behind a run
abbrev pub end_of_run : Run → ℕ
end_of_run run = run.file_block + run.count

-- the runs of so many records, one behind the other
unfoldable pub runs_in : ℕ → List ℕ → List Run
runs_in zero bytes = []
runs_in (suc count) bytes = run_in bytes ∷ runs_in count (drop 16 bytes)

-- file blocks rise and don't overlap, each run at or behind `least`; no run is empty
abbrev pub AreRuns : ℕ → List Run → Type 0
AreRuns least [] = Unit {0}
AreRuns least (run ∷ runs) = (least ≤ run.file_block) × (0 < run.count) × AreRuns (end_of_run run) runs

-- the block that a file block is mapped to
abbrev pub mapped : List Run → ℕ → Option ℕ
mapped [] file_block = None
mapped (run ∷ runs) file_block =
    if nat_le run.file_block file_block && nat_lt file_block (end_of_run run)
    then Some (run.block + (file_block - run.file_block))
    else mapped runs file_block

-- the record at the front is whole, unflagged, not empty, and at or behind `least`
pub record IsRecord (least : ℕ) (bytes : List ℕ) : Type 0 where
  pub whole : 16 ≤ length bytes
  pub unflagged : flag_in bytes ≡ 0
  pub some : 0 < (run_in bytes).count
  pub behind : least ≤ (run_in bytes).file_block

-- so many records, each at or behind the end of the one before
abbrev pub AreRecords : ℕ → ℕ → List ℕ → Type 0
AreRecords zero least bytes = Unit {0}
AreRecords (suc count) least bytes = IsRecord least bytes × AreRecords count (end_of_run (run_in bytes)) (drop 16 bytes)

-- the number, from 0, of the first record that is none
abbrev pub IsFirstBad : ℕ → ℕ → List ℕ → ℕ → Type 0
IsFirstBad zero least bytes at = ⊥
IsFirstBad (suc count) least bytes zero = ¬ IsRecord least bytes
IsFirstBad (suc count) least bytes (suc at) = IsRecord least bytes × IsFirstBad count (end_of_run (run_in bytes)) (drop 16 bytes) at
