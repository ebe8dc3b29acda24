-- What a header's fields say of themselves, before anything behind the header is looked at.
use Rattle.std.specs.Prelude.{◌≡◌, ℕ, ◌≤◌, List}
use Rattle.xn_log.specs.Records.{cycle_in, format_in, greatest_cycle, greatest_length, length_in, lsn_in, lsn_of, magic_in, record_magic, record_sectors, size_in, version_in}

-- the fields that are the same in each header
pub record HasMarks (bytes : List ℕ) : Type 0 where
  pub magic : magic_in bytes ≡ record_magic
  pub version : version_in bytes ≡ 2
  pub format : format_in bytes ≡ 1
  pub size : size_in bytes ≡ 32768

-- the cycle and the length are in range, and the record is not longer than the ring
pub record HasRanges (ring_sectors : ℕ) (bytes : List ℕ) : Type 0 where
  pub cycle_least : 1 ≤ cycle_in bytes
  pub cycle_most : cycle_in bytes ≤ greatest_cycle
  pub length_least : 1 ≤ length_in bytes
  pub length_most : length_in bytes ≤ greatest_length
  pub in_ring : record_sectors bytes ≤ ring_sectors

-- the sequence number is that of a record at the sector
abbrev pub HasPlace : ℕ → List ℕ → Type 0
HasPlace sector bytes = lsn_in bytes ≡ lsn_of (cycle_in bytes) sector

-- the header of a record that may begin at a sector of a ring of so many sectors
pub record IsHeader (ring_sectors sector : ℕ) (bytes : List ℕ) : Type 0 where
  pub marks : HasMarks bytes
  pub ranges : HasRanges ring_sectors bytes
  pub place : HasPlace sector bytes
