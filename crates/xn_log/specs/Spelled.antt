-- The bytes of a record as this project writes it: each of them.
use Rattle.std.specs.Prelude.{◌≢◌, ℕ, zero, suc, ◌+◌, ◌-◌, ◌*◌, ◌<◌, ◌≤◌, List, [], ◌∷◌, ◌++◌, length, take, replicate, slice_range, flat_map}
use Rattle.byteorder.specs.Endian.{big_bytes, little_bytes}
use Rattle.xn_bytes.specs.Checksum.{crc32c}
use Rattle.xn_log.specs.Records.{body_sectors, greatest_cycle, lsn_of, record_magic, sector_size, stamp_of}
use Rattle.xn_log.specs.declared.operation.Op.{Op}
use Rattle.xn_log.specs.declared.record.Record.{Record}

-- an operation: its transaction, how many bytes follow, who wrote it, its flags, two free bytes
abbrev pub operation_spelling : Op → List ℕ
operation_spelling op = big_bytes 4 op.tid ++ big_bytes 4 (length op.bytes) ++ op.client ∷ op.flags ∷ 0 ∷ 0 ∷ op.bytes

-- the used bytes of a body
abbrev pub operations_spelling : List Op → List ℕ
operations_spelling ops = flat_map operation_spelling ops

-- a body filled up with zeros to whole sectors
abbrev pub padded : List ℕ → List ℕ
padded body = body ++ replicate (sector_size * body_sectors (length body) - length body) 0

-- the first words of so many sectors of a padded body from the k-th on
unfoldable pub first_words : List ℕ → ℕ → ℕ → List ℕ
first_words body k zero = []
first_words body k (suc count) = slice_range body (sector_size * k) (sector_size * k + 4) ++ first_words body (suc k) count

-- so many sectors of a padded body from the k-th on, each with its stamp in place of its first word
unfoldable pub stamped_from : (ℕ → ℕ) → List ℕ → ℕ → ℕ → List ℕ
stamped_from stamp body k zero = []
stamped_from stamp body k (suc count) =
    big_bytes 4 (stamp k) ++ slice_range body (sector_size * k + 4) (sector_size * suc k) ++ stamped_from stamp body (suc k) count

-- the body with its stamps
abbrev pub stamped_body : ℕ → Record → List ℕ
stamped_body ring_sectors r =
    let body = operations_spelling r.ops in
    stamped_from (stamp_of ring_sectors r.sector r.cycle) (padded body) 0 (body_sectors (length body))

-- the cycle words: the words that the stamps stand for, and zeros behind them
abbrev pub cycle_words : List ℕ → List ℕ
cycle_words body =
    first_words (padded body) 0 (body_sectors (length body)) ++ replicate (256 - 4 * body_sectors (length body)) 0

-- the header's first 32 bytes
abbrev pub header_front : Record → List ℕ
header_front r =
    big_bytes 4 record_magic ++ big_bytes 4 r.cycle ++ big_bytes 4 2 ++ big_bytes 4 (length (operations_spelling r.ops))
    ++ big_bytes 8 (lsn_of r.cycle r.sector) ++ big_bytes 8 r.tail

-- the header behind the checksum, up to the last field
abbrev pub header_behind : List ℕ → Record → List ℕ
header_behind uuid r =
    big_bytes 4 r.previous ++ big_bytes 4 (length r.ops) ++ cycle_words (operations_spelling r.ops)
    ++ big_bytes 4 1 ++ uuid ++ big_bytes 4 32768

-- the checksum of the header's fields and the used bytes of the body, with the stamps
abbrev pub spelled_checksum : ℕ → List ℕ → Record → ℕ
spelled_checksum ring_sectors uuid r =
    crc32c (header_front r ++ replicate 4 0 ++ header_behind uuid r ++ replicate 4 0 ++ take (length (operations_spelling r.ops)) (stamped_body ring_sectors r))

-- The record's bytes: the header's fields, zeros to the end of its sector, and the body. The header's checksum covers the four bytes
-- behind the last field too, which are zeros.
abbrev pub record_spelling : ℕ → List ℕ → Record → List ℕ
record_spelling ring_sectors uuid r =
    header_front r ++ little_bytes 4 (spelled_checksum ring_sectors uuid r) ++ header_behind uuid r ++ replicate 188 0 ++ stamped_body ring_sectors r

-- how many bytes of operations a record may have that is written: so that it takes at most 64 sectors
abbrev pub greatest_spelled : ℕ
greatest_spelled = 32256

-- A record that can be written to a ring of so many sectors.
pub record IsSpellable (ring_sectors : ℕ) (r : Record) : Type 0 where
  pub cycle_least : 1 ≤ r.cycle
  pub cycle_most : r.cycle ≤ greatest_cycle
  pub within : r.sector < ring_sectors
  pub some : r.ops ≢ []
  pub most : length (operations_spelling r.ops) ≤ greatest_spelled
  pub in_ring : 1 + body_sectors (length (operations_spelling r.ops)) ≤ ring_sectors
