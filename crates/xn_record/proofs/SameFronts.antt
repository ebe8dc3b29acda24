-- Bytes whose front is the same as far as a record reaches.
use Rattle.std.proofs.Common.{◌≡◌, ℕ, zero, suc, ◌+◌, ◌*◌, ◌^◌, ◌≤◌, List, ◌++◌, length, take, inl, inr, replicate, ◌==◌, ◌&&◌, refl, sym, ap, ◌∙◌, arith, length-take}
use Rattle.std.specs.Prelude.{slice_range}
use Rattle.std.proofs.lemmas.List.{take-take}
use Rattle.xn_bytes.specs.Numbers.{number_at, little_number_at, overlaid}
use Rattle.xn_bytes.specs.Checksum.{crc32c}
use Rattle.xn_log.specs.Records.{HasRecordChecksum, IsIntact, are_whole, body_of, body_sector_at, body_sectors, checksum_in, count_in, holds_unmount, is_uuid, length_in, operations_in, is_unmount, operation_in, outline_in, record_checksum, record_in, record_sectors, restored_from, restored_sector, sector_size, stamp_of, uuid_in}
use Rattle.xn_record.proofs.Fronts.{number_same, slice_range-take, little_number_at-take}

-- the bytes have all sectors of their record, and others have the same front as far as that
pub record HaveSameRecord (bytes other : List ℕ) : Type 0 where
  pub front : take (sector_size * record_sectors bytes) bytes ≡ take (sector_size * record_sectors bytes) other
  pub whole : sector_size * record_sectors bytes ≤ length bytes

same_number : (width at : ℕ) (bytes other : List ℕ) → HaveSameRecord bytes other → at + width ≤ 512 → number_at width at bytes ≡ number_at width at other
same_number width at bytes other h within = number_same width at (sector_size * record_sectors bytes) bytes other (omega arith) h.front

same_slice : (bytes other : List ℕ) (from to : ℕ) → HaveSameRecord bytes other → from ≤ to → to ≤ sector_size * record_sectors bytes → slice_range bytes from to ≡ slice_range other from to
same_slice bytes other from to h order within =
    sym (slice_range-take (sector_size * record_sectors bytes) from to bytes order within)
    ∙ ap (λ (front : List ℕ). slice_range front from to) h.front
    ∙ slice_range-take (sector_size * record_sectors bytes) from to other order within

same_take : (bytes other : List ℕ) (count : ℕ) → HaveSameRecord bytes other → count ≤ 512 → take count bytes ≡ take count other
same_take bytes other count h within =
    sym (take-take count (sector_size * record_sectors bytes) bytes (omega arith))
    ∙ ap (take count) h.front
    ∙ take-take count (sector_size * record_sectors bytes) other (omega arith)

pub same_length : (bytes other : List ℕ) → HaveSameRecord bytes other → length_in bytes ≡ length_in other
same_length bytes other h = same_number 4 12 bytes other h (omega arith)

same_restored : (bytes other : List ℕ) (k count : ℕ) → HaveSameRecord bytes other → k + count ≤ body_sectors (length_in bytes) → restored_from bytes k count ≡ restored_from other k count
unfolding restored_from
same_restored bytes other k zero h within = refl
same_restored bytes other k (suc count) h within =
    let word : slice_range bytes (44 + 4 * k) (48 + 4 * k) ≡ slice_range other (44 + 4 * k) (48 + 4 * k) = same_slice bytes other (44 + 4 * k) (48 + 4 * k) h (omega arith) (omega arith) in
    let rest : slice_range bytes (body_sector_at k + 4) (body_sector_at (suc k)) ≡ slice_range other (body_sector_at k + 4) (body_sector_at (suc k)) = same_slice bytes other (body_sector_at k + 4) (body_sector_at (suc k)) h (omega arith) (omega arith) in
    ap (λ (w : List ℕ). w ++ slice_range bytes (body_sector_at k + 4) (body_sector_at (suc k)) ++ restored_from bytes (suc k) count) word
    ∙ ap (λ (r : List ℕ). slice_range other (44 + 4 * k) (48 + 4 * k) ++ r ++ restored_from bytes (suc k) count) rest
    ∙ ap (λ (behind : List ℕ). restored_sector other k ++ behind) (same_restored bytes other (suc k) count h (omega arith))

pub same_body : (bytes other : List ℕ) → HaveSameRecord bytes other → body_of bytes ≡ body_of other
same_body bytes other h =
    ap (take (length_in bytes)) (same_restored bytes other 0 (body_sectors (length_in bytes)) h (omega arith))
    ∙ ap (λ (length : ℕ). take length (restored_from other 0 (body_sectors length))) (same_length bytes other h)

same_checksum : (bytes other : List ℕ) → HaveSameRecord bytes other → record_checksum bytes ≡ record_checksum other
same_checksum bytes other h =
    let body : slice_range bytes sector_size (sector_size + length_in bytes) ≡ slice_range other sector_size (sector_size + length_in bytes) = same_slice bytes other sector_size (sector_size + length_in bytes) h (omega arith) (omega arith) in
    ap (λ (header : List ℕ). crc32c (overlaid header 32 (replicate 4 0) ++ slice_range bytes sector_size (sector_size + length_in bytes))) (same_take bytes other 328 h (omega arith))
    ∙ ap (λ (piece : List ℕ). crc32c (overlaid (take 328 other) 32 (replicate 4 0) ++ piece)) body
    ∙ ap (λ (length : ℕ). crc32c (overlaid (take 328 other) 32 (replicate 4 0) ++ slice_range other sector_size (sector_size + length))) (same_length bytes other h)

same_stored : (bytes other : List ℕ) → HaveSameRecord bytes other → checksum_in bytes ≡ checksum_in other
same_stored bytes other h =
    sym (little_number_at-take 4 32 (sector_size * record_sectors bytes) bytes (omega arith))
    ∙ ap (little_number_at 4 32) h.front
    ∙ little_number_at-take 4 32 (sector_size * record_sectors bytes) other (omega arith)

same_unmount : (bytes other : List ℕ) → HaveSameRecord bytes other → holds_unmount bytes ≡ holds_unmount other
same_unmount bytes other h =
    let count : count_in bytes ≡ count_in other = same_number 4 40 bytes other h (omega arith) in
    ap (λ (body : List ℕ). (count_in bytes == 1) && are_whole 1 body && is_unmount (operation_in body)) (same_body bytes other h)
    ∙ ap (λ (n : ℕ). (n == 1) && are_whole 1 (body_of other) && is_unmount (operation_in (body_of other))) count

has_same_checksum : (bytes other : List ℕ) → HaveSameRecord bytes other → HasRecordChecksum bytes → HasRecordChecksum other
has_same_checksum bytes other h (inl right) = inl (sym (same_stored bytes other h) ∙ right ∙ same_checksum bytes other h)
has_same_checksum bytes other h (inr unmounted) = inr (sym (same_stored bytes other h) ∙ unmounted.0, sym (same_unmount bytes other h) ∙ unmounted.1)

has_same_uuid : (own uuid other : List ℕ) → uuid ≡ other → is_uuid own uuid → is_uuid own other
has_same_uuid own uuid other same (inl e) = inl (sym same ∙ e)
has_same_uuid own uuid other same (inr e) = inr (sym same ∙ e)

pub intact_same : (ring_sectors sector : ℕ) (uuid bytes other : List ℕ) → take (sector_size * record_sectors bytes) bytes ≡ take (sector_size * record_sectors bytes) other → IsIntact ring_sectors sector uuid bytes → IsIntact ring_sectors sector uuid other
intact_same ring_sectors sector uuid bytes other front i =
    let h : HaveSameRecord bytes other = record { front = front; whole = i.whole } in
    let size : length_in bytes ≡ length_in other = same_length bytes other h in
    let cycle : number_at 4 4 bytes ≡ number_at 4 4 other = same_number 4 4 bytes other h (omega arith) in
    let count : count_in bytes ≡ count_in other = same_number 4 40 bytes other h (omega arith) in
    let long : sector_size * record_sectors bytes ≤ length other = omega (arith, ap length front, length-take (sector_size * record_sectors bytes) bytes, length-take (sector_size * record_sectors bytes) other, i.whole) in
    record {
      magic = sym (same_number 4 0 bytes other h (omega arith)) ∙ i.magic;
      cycle_least = omega (arith, cycle, i.cycle_least);
      cycle_most = omega (arith, cycle, i.cycle_most);
      version = sym (same_number 4 8 bytes other h (omega arith)) ∙ i.version;
      length_least = omega (arith, size, i.length_least);
      length_most = omega (arith, size, i.length_most);
      in_ring = omega (arith, size, i.in_ring);
      lsn = sym (same_number 8 16 bytes other h (omega arith)) ∙ i.lsn ∙ ap (λ (n : ℕ). n * 2 ^ 32 + sector) cycle;
      whole = omega (arith, size, long);
      checksum = has_same_checksum bytes other h i.checksum;
      format = sym (same_number 4 300 bytes other h (omega arith)) ∙ i.format;
      own = has_same_uuid uuid (uuid_in bytes) (uuid_in other) (same_slice bytes other 304 320 h (omega arith) (omega arith)) i.own;
      size = sym (same_number 4 320 bytes other h (omega arith)) ∙ i.size;
      stamps = λ k high.
          sym (number_same 4 (body_sector_at k) (sector_size * record_sectors bytes) bytes other (omega arith) front)
          ∙ i.stamps k (omega arith) ∙ ap (λ (n : ℕ). stamp_of ring_sectors sector n k) cycle;
      operations = sym (ap (are_whole (count_in bytes)) (same_body bytes other h) ∙ ap (λ (n : ℕ). are_whole n (body_of other)) count) ∙ i.operations;
    }

pub record_same : (ring_sectors sector : ℕ) (uuid bytes other : List ℕ) → take (sector_size * record_sectors bytes) bytes ≡ take (sector_size * record_sectors bytes) other → IsIntact ring_sectors sector uuid bytes → record_in sector bytes ≡ record_in sector other
record_same ring_sectors sector uuid bytes other front i =
    let h : HaveSameRecord bytes other = record { front = front; whole = i.whole } in
    let cycle : number_at 4 4 bytes ≡ number_at 4 4 other = same_number 4 4 bytes other h (omega arith) in
    let tail : number_at 8 24 bytes ≡ number_at 8 24 other = same_number 8 24 bytes other h (omega arith) in
    let previous : number_at 4 36 bytes ≡ number_at 4 36 other = same_number 4 36 bytes other h (omega arith) in
    let count : number_at 4 40 bytes ≡ number_at 4 40 other = same_number 4 40 bytes other h (omega arith) in
    let body : body_of bytes ≡ body_of other = same_body bytes other h in
    let ops : operations_in (number_at 4 40 bytes) (body_of bytes) ≡ operations_in (number_at 4 40 other) (body_of other) = ap (operations_in (number_at 4 40 bytes)) body ∙ ap (λ (n : ℕ). operations_in n (body_of other)) count in
    cc

pub outline_same : (ring_sectors sector : ℕ) (uuid bytes other : List ℕ) → take (sector_size * record_sectors bytes) bytes ≡ take (sector_size * record_sectors bytes) other → IsIntact ring_sectors sector uuid bytes → outline_in sector bytes ≡ outline_in sector other
outline_same ring_sectors sector uuid bytes other front i =
    let h : HaveSameRecord bytes other = record { front = front; whole = i.whole } in
    let cycle : number_at 4 4 bytes ≡ number_at 4 4 other = same_number 4 4 bytes other h (omega arith) in
    let tail : number_at 8 24 bytes ≡ number_at 8 24 other = same_number 8 24 bytes other h (omega arith) in
    let sectors : record_sectors bytes ≡ record_sectors other = ap (λ (n : ℕ). 1 + body_sectors n) (same_length bytes other h) in
    let unmount : holds_unmount bytes ≡ holds_unmount other = same_unmount bytes other h in
    cc
