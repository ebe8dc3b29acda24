-- The checks of a record, each of which passes or tells the first fault.
use Rattle.std.specs.Prelude.{◌≡◌, ℕ, Bool, true, false, ◌+◌, ◌*◌, ◌<◌, ◌≤◌, ◌==◌, ◌||◌, List, length, replicate, Option, Some, Result, Ok, Err, bytes_eq}
use Rattle.xn_bytes.specs.Numbers.{number_at}
use Rattle.xn_log.specs.Records.{cycle_in, format_in, greatest_cycle, greatest_length, length_in, lsn_in, lsn_of, magic_in, record_magic, record_sectors, sector_size, size_in, uuid_in, version_in}
use Rattle.xn_log.specs.RecordFaults.{is_cycle, is_length, unless}
use Rattle.xn_record.specs.declared.fault.RecFault.{RecFault}
use Rattle.xn_record.specs.declared.fault.RecFault.TheVariants.{Bad, Memory}

-- A check passes where the fault is that of what comes behind, and else tells the fault.
abbrev pub Passes : Option ℕ → Option ℕ → Result (Unit {0}) RecFault → Type 0
Passes fault behind (Ok _) = fault ≡ behind
Passes fault behind (Err (Bad at)) = fault ≡ Some at
Passes fault behind (Err Memory) = ⊥

-- the bytes reach a place, or the first that is missing is told
abbrev pub IsReached : ℕ → List ℕ → Result (Unit {0}) RecFault → Type 0
IsReached end bytes (Ok _) = end ≤ length bytes
IsReached end bytes (Err (Bad place)) = (length bytes < end) × (place ≡ length bytes)
IsReached end bytes (Err Memory) = ⊥

-- a field is right, or its place is told
abbrev pub IsRightAt : Bool → ℕ → Result (Unit {0}) RecFault → Type 0
IsRightAt is_right at (Ok _) = is_right ≡ true
IsRightAt is_right at (Err (Bad place)) = (is_right ≡ false) × (place ≡ at)
IsRightAt is_right at (Err Memory) = ⊥

-- the number of a field that is there, or the first byte that is missing
abbrev pub IsField : ℕ → ℕ → List ℕ → Result ℕ RecFault → Type 0
IsField width at bytes (Ok number) = (at + width ≤ length bytes) × (number ≡ number_at width at bytes)
IsField width at bytes (Err (Bad place)) = (length bytes < at + width) × (place ≡ length bytes)
IsField width at bytes (Err Memory) = ⊥

-- the first fault of the fields up to the sequence number
abbrev pub start_fault : ℕ → ℕ → List ℕ → Option ℕ → Option ℕ
start_fault ring_sectors sector bytes behind =
    unless 4 0 (magic_in bytes == record_magic) bytes
    (unless 4 4 (is_cycle (cycle_in bytes)) bytes
    (unless 4 8 (version_in bytes == 2) bytes
    (unless 4 12 (is_length ring_sectors (length_in bytes)) bytes
    (unless 8 16 (lsn_in bytes == lsn_of (cycle_in bytes) sector) bytes behind))))

-- the first fault of the fields behind the cycle words
abbrev pub end_fault : List ℕ → List ℕ → Option ℕ → Option ℕ
end_fault uuid bytes behind =
    unless 4 300 (format_in bytes == 1) bytes
    (unless 16 304 (bytes_eq (uuid_in bytes) uuid || bytes_eq (uuid_in bytes) (replicate 16 0)) bytes
    (unless 4 320 (size_in bytes == 32768) bytes behind))

-- the fields up to the length are there, and cycle and length are in range
pub record IsStart (bytes : List ℕ) : Type 0 where
  pub there : 16 ≤ length bytes
  pub cycle_least : 1 ≤ cycle_in bytes
  pub cycle_most : cycle_in bytes ≤ greatest_cycle
  pub length_least : 1 ≤ length_in bytes
  pub length_most : length_in bytes ≤ greatest_length

-- all sectors of a record are there, whose length is in range
pub record HasBody (bytes : List ℕ) : Type 0 where
  pub most : length_in bytes ≤ greatest_length
  pub whole : sector_size * record_sectors bytes ≤ length bytes
