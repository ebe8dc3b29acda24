-- Records of the log: a header of one sector (`struct xlog_rec_header` of `xfs_log_format.h`) and a body of whole sectors, in which
-- operations stand one behind the other (`struct xlog_op_header`). "The bytes" are those from the header's sector on.
use Rattle.std.specs.Prelude.{◌≡◌, ◌⊎◌, ℕ, zero, suc, ◌+◌, ◌*◌, ◌/◌, ◌%◌, ◌^◌, ◌<◌, ◌≤◌, Bool, true, IsTrue, ◌==◌, ◌&&◌, nat_lt, nat_le, if◌then◌else◌, List, [], ◌∷◌, ◌++◌, length, take, drop, replicate, slice_range}
use Rattle.xn_bytes.specs.Numbers.{number_at, little_number_at, overlaid}
use Rattle.xn_bytes.specs.Checksum.{crc32c}
use Rattle.xn_log.specs.declared.operation.Op.{Op}
use Rattle.xn_log.specs.declared.outline.Outline.{Outline}
use Rattle.xn_log.specs.declared.record.Record.{Record}

-- ---- the fields of the header

abbrev pub record_magic : ℕ
record_magic = 0xfeedbabe

-- the greatest cycle, which is below the magic: so a stamp is never taken for a header
abbrev pub greatest_cycle : ℕ
greatest_cycle = 4000000000

-- how many bytes of a body there are at most: as many as the cycle words of the header can stamp
abbrev pub greatest_length : ℕ
greatest_length = 32768

abbrev pub sector_size : ℕ
sector_size = 512

abbrev pub magic_in : List ℕ → ℕ
magic_in bytes = number_at 4 0 bytes

abbrev pub cycle_in : List ℕ → ℕ
cycle_in bytes = number_at 4 4 bytes

abbrev pub version_in : List ℕ → ℕ
version_in bytes = number_at 4 8 bytes

-- how many bytes of the body are used
abbrev pub length_in : List ℕ → ℕ
length_in bytes = number_at 4 12 bytes

abbrev pub lsn_in : List ℕ → ℕ
lsn_in bytes = number_at 8 16 bytes

abbrev pub tail_in : List ℕ → ℕ
tail_in bytes = number_at 8 24 bytes

abbrev pub checksum_in : List ℕ → ℕ
checksum_in bytes = little_number_at 4 32 bytes

abbrev pub previous_in : List ℕ → ℕ
previous_in bytes = number_at 4 36 bytes

abbrev pub count_in : List ℕ → ℕ
count_in bytes = number_at 4 40 bytes

abbrev pub format_in : List ℕ → ℕ
format_in bytes = number_at 4 300 bytes

abbrev pub uuid_in : List ℕ → List ℕ
uuid_in bytes = slice_range bytes 304 320

abbrev pub size_in : List ℕ → ℕ
size_in bytes = number_at 4 320 bytes

-- a sequence number: the cycle above the ring sector
abbrev pub lsn_of : ℕ → ℕ → ℕ
lsn_of cycle sector = cycle * 2 ^ 32 + sector

-- how many sectors so many bytes of a body take
abbrev pub body_sectors : ℕ → ℕ
body_sectors length = (length + 511) / sector_size

-- how many sectors the record takes, the header's among them
abbrev pub record_sectors : List ℕ → ℕ
record_sectors bytes = 1 + body_sectors (length_in bytes)

-- the uuid is that of the superblock, or all zero
abbrev pub is_uuid : List ℕ → List ℕ → Type 0
is_uuid own uuid = (uuid ≡ own) ⊎ (uuid ≡ replicate 16 0)

-- ---- the body

-- where body sector k begins
abbrev pub body_sector_at : ℕ → ℕ
body_sector_at k = sector_size + sector_size * k

-- The stamp of body sector k of a record that begins at a sector of a ring of so many: the cycle, or one more past the ring's end.
abbrev pub stamp_of : ℕ → ℕ → ℕ → ℕ → ℕ
stamp_of ring_sectors sector cycle k = if nat_lt (sector + 1 + k) ring_sectors then cycle else cycle + 1

-- Body sector k with the word put back that its stamp stands for. That word stands in the header's cycle words, in order.
abbrev pub restored_sector : List ℕ → ℕ → List ℕ
restored_sector bytes k = slice_range bytes (44 + 4 * k) (48 + 4 * k) ++ slice_range bytes (body_sector_at k + 4) (body_sector_at (suc k))

-- so many body sectors from the k-th on, with the words put back
unfoldable pub restored_from : List ℕ → ℕ → ℕ → List ℕ
restored_from bytes k zero = []
restored_from bytes k (suc count) = restored_sector bytes k ++ restored_from bytes (suc k) count

-- what the body says: its used bytes, with the words put back
abbrev pub body_of : List ℕ → List ℕ
body_of bytes = take (length_in bytes) (restored_from bytes 0 (body_sectors (length_in bytes)))

-- The checksum of a record: over the first 328 bytes of the header, whose own checksum counts as zeros, and the used bytes of the
-- body as they stand, with the stamps.
abbrev pub record_checksum : List ℕ → ℕ
record_checksum bytes = crc32c (overlaid (take 328 bytes) 32 (replicate 4 0) ++ slice_range bytes sector_size (sector_size + length_in bytes))

-- ---- operations

-- how many bytes the operation at the front takes, its header of 12 bytes among them
abbrev pub operation_size : List ℕ → ℕ
operation_size body = 12 + number_at 4 4 body

-- the operation at the front
abbrev pub operation_in : List ℕ → Op
operation_in body = record {
  tid = number_at 4 0 body;
  client = number_at 1 8 body;
  flags = number_at 1 9 body;
  bytes = slice_range body 12 (operation_size body);
}

-- so many operations stand whole at the front, one behind the other
unfoldable pub are_whole : ℕ → List ℕ → Bool
are_whole zero body = true
are_whole (suc count) body = nat_le 12 (length body) && nat_le (operation_size body) (length body) && are_whole count (drop (operation_size body) body)

-- those operations
unfoldable pub operations_in : ℕ → List ℕ → List Op
operations_in zero body = []
operations_in (suc count) body = operation_in body ∷ operations_in count (drop (operation_size body) body)

-- flags of operations

abbrev pub start_flag : ℕ
start_flag = 0

abbrev pub commit_flag : ℕ
commit_flag = 1

abbrev pub continue_flag : ℕ
continue_flag = 2

abbrev pub was_continued_flag : ℕ
was_continued_flag = 3

abbrev pub unmount_flag : ℕ
unmount_flag = 5

-- whether the flag with that bit, counted from 0, is set
abbrev pub has_flag : ℕ → ℕ → Bool
has_flag flags bit = flags / 2 ^ bit % 2 == 1

-- the log itself as the writer of an operation
abbrev pub log_client : ℕ
log_client = 0xaa

-- the log says that it was unmounted
abbrev pub is_unmount : Op → Bool
is_unmount op = (op.client == log_client) && has_flag op.flags unmount_flag

-- the bytes hold a record of just the unmount operation
abbrev pub holds_unmount : List ℕ → Bool
holds_unmount bytes = (count_in bytes == 1) && are_whole 1 (body_of bytes) && is_unmount (operation_in (body_of bytes))

-- ---- intact records

-- The stored checksum is right. One of 0 passes where the record holds just the unmount operation: mkfs writes such a record.
abbrev pub HasRecordChecksum : List ℕ → Type 0
HasRecordChecksum bytes = (checksum_in bytes ≡ record_checksum bytes) ⊎ ((checksum_in bytes ≡ 0) × IsTrue (holds_unmount bytes))

-- The bytes from a sector of a ring of so many sectors on begin with an intact record of the filesystem with this uuid.
pub record IsIntact (ring_sectors sector : ℕ) (uuid bytes : List ℕ) : Type 0 where
  pub magic : magic_in bytes ≡ record_magic
  pub cycle_least : 1 ≤ cycle_in bytes
  pub cycle_most : cycle_in bytes ≤ greatest_cycle
  pub version : version_in bytes ≡ 2
  pub length_least : 1 ≤ length_in bytes
  pub length_most : length_in bytes ≤ greatest_length
  pub in_ring : record_sectors bytes ≤ ring_sectors
  pub lsn : lsn_in bytes ≡ lsn_of (cycle_in bytes) sector
  pub whole : sector_size * record_sectors bytes ≤ length bytes
  pub checksum : HasRecordChecksum bytes
  pub format : format_in bytes ≡ 1
  pub own : is_uuid uuid (uuid_in bytes)
  pub size : size_in bytes ≡ 32768
  pub stamps : (k : ℕ) → k < body_sectors (length_in bytes) → number_at 4 (body_sector_at k) bytes ≡ stamp_of ring_sectors sector (cycle_in bytes) k
  pub operations : IsTrue (are_whole (count_in bytes) (body_of bytes))

-- the record that the bytes hold
abbrev pub record_in : ℕ → List ℕ → Record
record_in sector bytes = record {
  cycle = cycle_in bytes;
  sector = sector;
  tail = tail_in bytes;
  previous = previous_in bytes;
  ops = operations_in (count_in bytes) (body_of bytes);
}

-- what the ring has to know of it
abbrev pub outline_in : ℕ → List ℕ → Outline
outline_in sector bytes = record {
  cycle = cycle_in bytes;
  sector = sector;
  sectors = record_sectors bytes;
  tail = tail_in bytes;
  is_unmount = holds_unmount bytes;
}
