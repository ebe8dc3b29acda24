-- Parts of a record's bytes as they are written, before its checksum is known.
use Rattle.std.specs.Prelude.{◌≡◌, ℕ, ◌+◌, ◌^◌, ◌<◌, ◌≤◌, All, List, ◌++◌, length, replicate, take, slice_range}
use Rattle.byteorder.specs.Endian.{little_bytes}
use Rattle.xn_bytes.specs.Checksum.{crc32c}
use Rattle.xn_bytes.specs.Numbers.{overlaid}
use Rattle.xn_log.specs.Spelled.{IsSpellable, header_behind, header_front, operations_spelling, padded}
use Rattle.xn_log.specs.declared.operation.Op.{Op}
use Rattle.xn_log.specs.declared.record.Record.{Record}
use Rattle.xn_record.specs.declared.append.PaddedBody.{PaddedBody}

-- the operations of a record as its body, filled up to whole sectors
pub record IsBodyOf (ops : List Op) (body : PaddedBody) : Type 0 where
  pub bytes : body.bytes.items ≡ padded (operations_spelling ops)
  pub length : body.length ≡ length (operations_spelling ops)

-- the header with zeros in place of its checksum
abbrev pub header_without_checksum : List ℕ → Record → List ℕ
header_without_checksum uuid r = header_front r ++ replicate 4 0 ++ header_behind uuid r ++ replicate 188 0

-- the checksum of bytes with zeros in its place, over a body of which so many bytes are used
abbrev pub checksum_of_written : List ℕ → ℕ → ℕ
checksum_of_written bytes used = crc32c (overlaid (take 328 bytes) 32 (replicate 4 0) ++ slice_range bytes 512 (512 + used))

-- the bytes with that checksum in its place
abbrev pub with_checksum : List ℕ → ℕ → List ℕ
with_checksum bytes used = overlaid bytes 32 (little_bytes 4 (checksum_of_written bytes used))

-- an operation of which each number fits its field
pub record IsWritableOp (op : Op) : Type 0 where
  pub tid : op.tid < 2 ^ 32
  pub client : op.client < 256
  pub flags : op.flags < 256
  pub bytes : All (λ byte. byte < 256) op.bytes

-- A record that can be written, of which each number fits its field, and a uuid of 16 bytes.
pub record IsWritable (ring_sectors : ℕ) (uuid : List ℕ) (r : Record) : Type 0 where
  pub spellable : IsSpellable ring_sectors r
  pub ring : ring_sectors ≤ 2 ^ 32
  pub own : length uuid ≡ 16
  pub own_bytes : All (λ byte. byte < 256) uuid
  pub tail : r.tail < 2 ^ 64
  pub previous : r.previous < 2 ^ 32
  pub ops : All IsWritableOp r.ops
