-- Headers of bytes that have the same first sector.
use Rattle.std.proofs.Common.{◌≡◌, ℕ, ◌+◌, ◌*◌, ◌^◌, List, take, sym, ap, ◌∙◌, arith, lit≤}
use Rattle.xn_bytes.specs.Numbers.{number_at}
use Rattle.xn_log.specs.Records.{IsIntact, length_in}
use Rattle.xn_record.specs.Headers.{IsHeader}
use Rattle.xn_record.proofs.Fronts.{number_same}

pub same_length : (bytes header : List ℕ) → take 512 bytes ≡ take 512 header → length_in bytes ≡ length_in header
same_length bytes header same = number_same 4 12 512 bytes header (lit≤ tt) same

-- an intact record has a header
pub intact_header : (ring_sectors sector : ℕ) (uuid bytes : List ℕ) → IsIntact ring_sectors sector uuid bytes → IsHeader ring_sectors sector bytes
intact_header ring_sectors sector uuid bytes h = record {
  marks = record { magic = h.magic; version = h.version; format = h.format; size = h.size };
  ranges = record { cycle_least = h.cycle_least; cycle_most = h.cycle_most; length_least = h.length_least; length_most = h.length_most; in_ring = h.in_ring };
  place = h.lsn;
}

-- bytes with the same first sector have the same header
pub header_same : (ring_sectors sector : ℕ) (bytes header : List ℕ) → take 512 bytes ≡ take 512 header → IsHeader ring_sectors sector bytes → IsHeader ring_sectors sector header
header_same ring_sectors sector bytes header same h =
    let magic : number_at 4 0 header ≡ number_at 4 0 bytes = sym (number_same 4 0 512 bytes header (lit≤ tt) same) in
    let cycle : number_at 4 4 header ≡ number_at 4 4 bytes = sym (number_same 4 4 512 bytes header (lit≤ tt) same) in
    let version : number_at 4 8 header ≡ number_at 4 8 bytes = sym (number_same 4 8 512 bytes header (lit≤ tt) same) in
    let length : number_at 4 12 header ≡ number_at 4 12 bytes = sym (same_length bytes header same) in
    let lsn : number_at 8 16 header ≡ number_at 8 16 bytes = sym (number_same 8 16 512 bytes header (lit≤ tt) same) in
    let format : number_at 4 300 header ≡ number_at 4 300 bytes = sym (number_same 4 300 512 bytes header (lit≤ tt) same) in
    let size : number_at 4 320 header ≡ number_at 4 320 bytes = sym (number_same 4 320 512 bytes header (lit≤ tt) same) in
    record {
      marks = record { magic = magic ∙ h.marks.magic; version = version ∙ h.marks.version; format = format ∙ h.marks.format; size = size ∙ h.marks.size };
      ranges = record {
        cycle_least = omega (arith, cycle, h.ranges.cycle_least);
        cycle_most = omega (arith, cycle, h.ranges.cycle_most);
        length_least = omega (arith, length, h.ranges.length_least);
        length_most = omega (arith, length, h.ranges.length_most);
        in_ring = omega (arith, length, h.ranges.in_ring);
      };
      place = lsn ∙ h.place ∙ ap (λ (number : ℕ). number * 2 ^ 32 + sector) (sym cycle);
    }
