-- The first place at which bytes fail to begin with an intact record.
use Rattle.std.specs.Prelude.{ℕ, zero, suc, ◌+◌, ◌*◌, Bool, ◌==◌, ◌&&◌, ◌||◌, nat_lt, nat_le, if◌then◌else◌, List, length, replicate, Option, Some, None, bytes_eq}
use Rattle.xn_bytes.specs.Numbers.{number_at}
use Rattle.xn_log.specs.Records.{are_whole, body_of, body_sector_at, body_sectors, checksum_in, count_in, cycle_in, format_in, greatest_cycle, greatest_length, holds_unmount, length_in, lsn_in, lsn_of, magic_in, record_checksum, record_magic, record_sectors, sector_size, size_in, stamp_of, uuid_in, version_in}

-- The field of so many bytes at a place: the first of its bytes that is missing, or the place where it isn't right; else what
-- comes behind it.
abbrev pub unless : ℕ → ℕ → Bool → List ℕ → Option ℕ → Option ℕ
unless width at is_right bytes behind =
    if nat_lt (length bytes) (at + width) then Some (length bytes)
    else if is_right then behind
    else Some at

-- the cycle is in range
abbrev pub is_cycle : ℕ → Bool
is_cycle cycle = nat_le 1 cycle && nat_le cycle greatest_cycle

-- the length is in range, and the record with its header not longer than the ring
abbrev pub is_length : ℕ → ℕ → Bool
is_length ring_sectors length = nat_le 1 length && nat_le length greatest_length && nat_le (1 + body_sectors length) ring_sectors

abbrev pub has_record_checksum : List ℕ → Bool
has_record_checksum bytes = (checksum_in bytes == record_checksum bytes) || ((checksum_in bytes == 0) && holds_unmount bytes)

-- all sectors of the record are there
abbrev pub is_whole : List ℕ → Bool
is_whole bytes = nat_le (sector_size * record_sectors bytes) (length bytes)

-- The checksum is wrong at its place. It can be compared only where all sectors are there.
abbrev pub unless_checksum : List ℕ → Option ℕ → Option ℕ
unless_checksum bytes behind = if is_whole bytes then (if has_record_checksum bytes then behind else Some 32) else behind

-- the operations are cut off by the end of the body, where their first missing byte would stand
abbrev pub operations_fault : List ℕ → Option ℕ
operations_fault bytes = if are_whole (count_in bytes) (body_of bytes) then None else Some (sector_size + length_in bytes)

-- a body sector is missing at the end of the bytes, or else the operations are cut off
abbrev pub body_end_fault : List ℕ → Option ℕ
body_end_fault bytes = if is_whole bytes then operations_fault bytes else Some (length bytes)

-- the first of so many stamps from the k-th on that is wrong or missing; else what comes behind
unfoldable pub stamps_fault : ℕ → ℕ → List ℕ → ℕ → ℕ → Option ℕ
stamps_fault ring_sectors sector bytes k zero = body_end_fault bytes
stamps_fault ring_sectors sector bytes k (suc count) =
    unless 4 (body_sector_at k) (number_at 4 (body_sector_at k) bytes == stamp_of ring_sectors sector (cycle_in bytes) k) bytes
    (stamps_fault ring_sectors sector bytes (suc k) count)

-- the first fault of the fields behind the checksum, and of the body
abbrev pub later_fault : ℕ → ℕ → List ℕ → List ℕ → Option ℕ
later_fault ring_sectors sector uuid bytes =
    unless 4 300 (format_in bytes == 1) bytes
    (unless 16 304 (bytes_eq (uuid_in bytes) uuid || bytes_eq (uuid_in bytes) (replicate 16 0)) bytes
    (unless 4 320 (size_in bytes == 32768) bytes
    (stamps_fault ring_sectors sector bytes 0 (body_sectors (length_in bytes)))))

-- The first place at which the bytes from a sector of a ring on fail to begin with an intact record: that of a field that is wrong,
-- or of the first byte that is missing.
unfoldable pub record_fault : ℕ → ℕ → List ℕ → List ℕ → Option ℕ
record_fault ring_sectors sector uuid bytes =
    unless 4 0 (magic_in bytes == record_magic) bytes
    (unless 4 4 (is_cycle (cycle_in bytes)) bytes
    (unless 4 8 (version_in bytes == 2) bytes
    (unless 4 12 (is_length ring_sectors (length_in bytes)) bytes
    (unless 8 16 (lsn_in bytes == lsn_of (cycle_in bytes) sector) bytes
    (unless_checksum bytes
    (later_fault ring_sectors sector uuid bytes))))))
