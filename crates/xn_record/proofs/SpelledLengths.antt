-- How long the parts of a record's bytes are.
use Rattle.std.proofs.Common.{◌≡◌, ℕ, zero, suc, ◌+◌, ◌-◌, ◌*◌, ◌≤◌, List, [], ◌∷◌, ◌++◌, length, refl, arith, length-append, replicate}
use Rattle.std.proofs.lemmas.List.{length-replicate}
use Rattle.std.specs.Prelude.{slice_range}
use Rattle.byteorder.specs.Endian.{big_bytes}
use Rattle.xn_bytes.proofs.Overlays.{length-slice_range}
use Rattle.xn_log.specs.Records.{body_sectors, sector_size, stamp_of}
use Rattle.xn_log.specs.Spelled.{cycle_words, first_words, greatest_spelled, header_behind, header_front, operation_spelling, operations_spelling, padded, stamped_body, stamped_from}
use Rattle.xn_log.specs.declared.operation.Op.{Op}
use Rattle.xn_log.specs.declared.record.Record.{Record}
use Rattle.xn_record.proofs.Appending.{length-operation_spelling}

pub few_operations : (ops : List Op) → 12 * length ops ≤ length (operations_spelling ops)
few_operations [] = omega arith
few_operations (op ∷ ops) = omega (arith, length-append (operation_spelling op) (operations_spelling ops), length-operation_spelling op, few_operations ops)

pub length-padded : (body : List ℕ) → length (padded body) ≡ 512 * body_sectors (length body)
length-padded body =
    let zeros : List ℕ = replicate (sector_size * body_sectors (length body) - length body) 0 in
    omega (arith, length-append body zeros, length-replicate {A = ℕ})

pub length-first_words : (body : List ℕ) (k count : ℕ) → 512 * (k + count) ≤ length body → length (first_words body k count) ≡ 4 * count
unfolding first_words
length-first_words body k zero h = refl
length-first_words body k (suc count) h =
    omega (arith, length-append (slice_range body (512 * k) (512 * k + 4)) (first_words body (suc k) count), length-slice_range body (512 * k) (512 * k + 4) (omega arith), length-first_words body (suc k) count (omega arith))

pub length-stamped_from : (stamp : ℕ → ℕ) (body : List ℕ) (k count : ℕ) → 512 * (k + count) ≤ length body → length (stamped_from stamp body k count) ≡ 512 * count
unfolding stamped_from
length-stamped_from stamp body k zero h = refl
length-stamped_from stamp body k (suc count) h =
    let word : length (big_bytes 4 (stamp k)) ≡ 4 = refl in
    let rest : length (slice_range body (512 * k + 4) (512 * suc k)) ≡ 512 * suc k - (512 * k + 4) = length-slice_range body (512 * k + 4) (512 * suc k) (omega arith) in
    omega (arith, length-append (big_bytes 4 (stamp k) ++ slice_range body (512 * k + 4) (512 * suc k)) (stamped_from stamp body (suc k) count), length-append (big_bytes 4 (stamp k)) (slice_range body (512 * k + 4) (512 * suc k)), length-stamped_from stamp body (suc k) count (omega arith))

pub length-stamped_body : (ring_sectors : ℕ) (r : Record) → length (stamped_body ring_sectors r) ≡ 512 * body_sectors (length (operations_spelling r.ops))
length-stamped_body ring_sectors r =
    let body : List ℕ = operations_spelling r.ops in
    length-stamped_from (stamp_of ring_sectors r.sector r.cycle) (padded body) 0 (body_sectors (length body)) (omega (arith, length-padded body))

pub length-cycle_words : (body : List ℕ) → length body ≤ greatest_spelled → length (cycle_words body) ≡ 256
length-cycle_words body h =
    let words : List ℕ = first_words (padded body) 0 (body_sectors (length body)) in
    omega (arith, length-append words (replicate (256 - 4 * body_sectors (length body)) 0), length-first_words (padded body) 0 (body_sectors (length body)) (omega (arith, length-padded body)), length-replicate {A = ℕ})

pub length-header_front : (r : Record) → length (header_front r) ≡ 32
length-header_front r = refl

pub length-header_behind : (uuid : List ℕ) (r : Record) → length uuid ≡ 16 → length (operations_spelling r.ops) ≤ greatest_spelled → length (header_behind uuid r) ≡ 288
length-header_behind uuid r own most =
    let words : List ℕ = cycle_words (operations_spelling r.ops) in
    let front : List ℕ = big_bytes 4 r.previous ++ big_bytes 4 (length r.ops) in
    let start : length front ≡ 8 = refl in
    let format : length (big_bytes 4 1) ≡ 4 = refl in
    let size : length (big_bytes 4 32768) ≡ 4 = refl in
    omega (arith, length-append (front ++ words ++ big_bytes 4 1 ++ uuid) (big_bytes 4 32768), length-append (front ++ words ++ big_bytes 4 1) uuid, length-append (front ++ words) (big_bytes 4 1), length-append front words, length-cycle_words (operations_spelling r.ops) most)
