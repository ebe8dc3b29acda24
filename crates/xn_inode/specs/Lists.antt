-- What it says that a list of extents was not read, and what one run of a list maps.
use Rattle.std.specs.Prelude.{◌≡◌, ℕ, ◌+◌, ◌-◌, ◌<◌, ◌≤◌, ◌&&◌, nat_le, nat_lt, if◌then◌else◌, List, Option, Some, None, IfSome, IsSome, slice_get}
use Rattle.xn_bytes.specs.Extents.{Run, IsFirstBad, end_of_run, mapped}
use Rattle.xn_inode.specs.declared.extents.ExtentFault.{ExtentFault}
use Rattle.xn_inode.specs.declared.extents.ExtentFault.TheVariants.{Bad, Memory}

-- a fault names the first record that is none, or says that memory ran out
abbrev pub NotRead : ℕ → List ℕ → ExtentFault → Type 0
NotRead count bytes (Bad at) = IsFirstBad count 0 bytes at
NotRead count bytes Memory = Unit {0}

-- the block that one run, if there is one, maps a file block to
abbrev pub mapped_by : Option Run → ℕ → Option ℕ
mapped_by None file_block = None
mapped_by (Some run) file_block =
    if nat_le run.file_block file_block && nat_lt file_block (end_of_run run)
    then Some (run.block + (file_block - run.file_block))
    else None

-- From a file block on, the run at this index maps what stands in front of its end, and ends behind the file block; past
-- the last run nothing is mapped.
pub record IsPlace (runs : List Run) (file_block at : ℕ) : Type 0 where
  pub behind : IfSome (slice_get runs at) (λ run. file_block < end_of_run run)
  pub maps : (other : ℕ) → file_block ≤ other → IfSome (slice_get runs at) (λ run. other < end_of_run run) → mapped runs other ≡ mapped_by (slice_get runs at) other

-- a run that isn't empty, begins below a limit, and alone maps what stands between
pub record IsLastRun (runs : List Run) (limit : ℕ) (run : Run) : Type 0 where
  pub below : run.file_block < limit
  pub some : 0 < run.count
  pub maps : (other : ℕ) → run.file_block ≤ other → other < limit → mapped runs other ≡ mapped_by (Some run) other

-- the least file block from one on and below a limit that is mapped, and its block
pub record IsNextMapped (runs : List Run) (from limit file_block block : ℕ) : Type 0 where
  pub at_least : from ≤ file_block
  pub below : file_block < limit
  pub there : mapped runs file_block ≡ Some block
  pub first : (other : ℕ) → from ≤ other → other < file_block → mapped runs other ≡ None

-- the greatest file block below a limit that is mapped
pub record IsLastMapped (runs : List Run) (limit file_block : ℕ) : Type 0 where
  pub below : file_block < limit
  pub there : IsSome (mapped runs file_block)
  pub last : (other : ℕ) → file_block < other → other < limit → mapped runs other ≡ None
