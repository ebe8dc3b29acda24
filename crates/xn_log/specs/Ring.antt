-- The ring: the log's sectors, numbered from 0. After the last one a record goes on at sector 0. Each definition looks at the ring's
-- bytes alone.
use Rattle.std.specs.Prelude.{◌≡◌, ℕ, ◌+◌, ◌*◌, ◌/◌, ◌%◌, ◌<◌, List, ◌++◌, length, take, drop, slice_range}
use Rattle.xn_bytes.specs.Superblock.{Geometry, sector_of_block}
use Rattle.xn_log.specs.Records.{IsIntact, lsn_in, magic_in, record_in, record_magic, record_sectors, tail_in}
use Rattle.xn_log.specs.declared.record.Record.{Record}

-- the bytes of the log's sectors in an image
abbrev pub ring_of : Geometry → List ℕ → List ℕ
ring_of g image = slice_range image (512 * sector_of_block g g.log_start) (512 * (sector_of_block g g.log_start + 8 * g.log_blocks))

-- how many sectors a ring has
abbrev pub ring_sectors_of : List ℕ → ℕ
ring_sectors_of ring = length ring / 512

-- the ring's bytes from a sector on, once round
abbrev pub turned : List ℕ → ℕ → List ℕ
turned ring sector = drop (512 * sector) ring ++ take (512 * sector) ring

-- an intact record begins at the sector
pub record IsIntactAt (uuid ring : List ℕ) (sector : ℕ) : Type 0 where
  pub within : sector < ring_sectors_of ring
  pub intact : IsIntact (ring_sectors_of ring) sector uuid (turned ring sector)

-- what a record that begins at the sector says

abbrev pub lsn_at : List ℕ → ℕ → ℕ
lsn_at ring sector = lsn_in (turned ring sector)

abbrev pub tail_at : List ℕ → ℕ → ℕ
tail_at ring sector = tail_in (turned ring sector)

abbrev pub sectors_at : List ℕ → ℕ → ℕ
sectors_at ring sector = record_sectors (turned ring sector)

abbrev pub record_at : List ℕ → ℕ → Record
record_at ring sector = record_in sector (turned ring sector)

-- the sector after a record
abbrev pub sector_after : List ℕ → ℕ → ℕ
sector_after ring sector = (sector + sectors_at ring sector) % ring_sectors_of ring

-- a sector begins with the magic of records, whatever stands behind it
pub record IsMarked (ring : List ℕ) (sector : ℕ) : Type 0 where
  pub within : sector < ring_sectors_of ring
  pub magic : magic_in (drop (512 * sector) ring) ≡ record_magic
