-- Lists of bytes: each is below 256. A checksum of bytes fits four bytes.
use Rattle.std.proofs.Common.{ℕ, zero, suc, ◌+◌, ◌-◌, ◌*◌, ◌/◌, ◌%◌, ◌^◌, ◌<◌, Bool, true, false, List, [], ◌∷◌, ◌++◌, length, take, drop, get_or, inl, inr, replicate, refl, arith, lit<, length-take, ◌==◌}
use Rattle.std.specs.Prelude.{All, bit_xor, slice_range, if◌then◌else◌}
use Rattle.std.specs.Int.{byte_at}
use Rattle.std.proofs.lemmas.Bool.{cases_lt}
use Rattle.std.proofs.lemmas.List.{get_or-drop, get_or-take, get_or_append_left, get_or-append_right, get_or_past}
use Rattle.std.proofs.lemmas.Nat.{xor_lt}
use Rattle.byteorder.specs.Endian.{big_bytes}
use Rattle.xn_bytes.specs.Checksum.{bit_step, bit_steps, byte_step, crc32c, polynomial, register_after}
use Rattle.xn_log.specs.Records.{body_sectors, sector_size, stamp_of}
use Rattle.xn_log.specs.Spelled.{cycle_words, first_words, header_behind, header_front, operation_spelling, operations_spelling, padded, spelled_checksum, stamped_body, stamped_from}
use Rattle.xn_log.specs.declared.operation.Op.{Op}
use Rattle.xn_log.specs.declared.record.Record.{Record}
use Rattle.xn_record.specs.Writing.{IsWritableOp}

abbrev AreBytes : List ℕ → Type 0
AreBytes xs = (k : ℕ) → get_or xs k 0 < 256

-- ---- lists

bytes_none : AreBytes []
bytes_none k = omega arith

bytes-cons : (x : ℕ) (xs : List ℕ) → x < 256 → AreBytes xs → AreBytes (x ∷ xs)
bytes-cons x xs small h zero = small
bytes-cons x xs small h (suc k) = h k

bytes_of_all : (xs : List ℕ) → All (λ x. x < 256) xs → AreBytes xs
bytes_of_all xs h k = elim (cases_lt k (length xs)) [
  | inl within ↦ h k 0 within
  | inr past ↦ omega (arith, get_or_past xs k 0 past)
]

bytes-append : (xs ys : List ℕ) → AreBytes xs → AreBytes ys → AreBytes (xs ++ ys)
bytes-append xs ys hx hy k = elim (cases_lt k (length xs)) [
  | inl within ↦ omega (arith, get_or_append_left xs ys 0 k within, hx k)
  | inr past ↦ omega (arith, get_or-append_right xs ys (length xs) k 0 refl past, hy (k - length xs))
]

bytes-take : (n : ℕ) (xs : List ℕ) → AreBytes xs → AreBytes (take n xs)
bytes-take n xs h k = elim (cases_lt k n) [
  | inl within ↦ omega (arith, get_or-take n xs k 0 within, h k)
  | inr past ↦ omega (arith, get_or_past (take n xs) k 0 (omega (arith, length-take n xs)))
]

bytes-slice : (from to : ℕ) (xs : List ℕ) → AreBytes xs → AreBytes (slice_range xs from to)
bytes-slice from to xs h = bytes-take (to - from) (drop from xs) (λ k. omega (arith, get_or-drop from xs k 0, h (from + k)))

bytes-zeros : (n : ℕ) → AreBytes (replicate n 0)
bytes-zeros zero = bytes_none
bytes-zeros (suc n) = bytes-cons 0 (replicate n 0) (omega arith) (bytes-zeros n)

byte_at_small : (place n : ℕ) → byte_at place n < 256
byte_at_small zero n = omega arith
byte_at_small (suc place) n = omega arith

bytes-big_bytes : (width n : ℕ) → AreBytes (big_bytes width n)
bytes-big_bytes zero n = bytes_none
bytes-big_bytes (suc width) n = bytes-cons (byte_at width n) (big_bytes width n) (byte_at_small width n) (bytes-big_bytes width n)

-- ---- the checksum

bit_step_small : (a : ℕ) → a < 2 ^ 32 → bit_step a < 2 ^ 32
bit_step_small a h = by_test (a % 2 == 1) a h
  where
    by_test : (b : Bool) (a : ℕ) → a < 2 ^ 32 → (if b then bit_xor (a / 2) polynomial else a / 2) < 2 ^ 32
    by_test true a h = xor_lt 32 (a / 2) polynomial (omega arith) (lit< tt)
    by_test false a h = omega arith

bit_steps_small : (count a : ℕ) → a < 2 ^ 32 → bit_steps count a < 2 ^ 32
unfolding bit_steps
bit_steps_small zero a h = h
bit_steps_small (suc count) a h = bit_steps_small count (bit_step a) (bit_step_small a h)

byte_step_small : (a byte : ℕ) → a < 2 ^ 32 → byte < 256 → byte_step a byte < 2 ^ 32
unfolding byte_step
byte_step_small a byte h small = bit_steps_small 8 (bit_xor a byte) (xor_lt 32 a byte h (omega arith))

register_small : (a : ℕ) (bytes : List ℕ) → a < 2 ^ 32 → AreBytes bytes → register_after a bytes < 2 ^ 32
register_small a [] h all = h
register_small a (byte ∷ bytes) h all = register_small (byte_step a byte) bytes (byte_step_small a byte h (all 0)) (λ k. all (suc k))

checksum_small : (bytes : List ℕ) → AreBytes bytes → crc32c bytes < 2 ^ 32
checksum_small bytes all = xor_lt 32 (register_after 0xffffffff bytes) 0xffffffff (register_small 0xffffffff bytes (lit< tt) all) (lit< tt)

-- ---- the parts of a record

bytes-operation : (op : Op) → IsWritableOp op → AreBytes (operation_spelling op)
bytes-operation op w =
    bytes-append (big_bytes 4 op.tid ++ big_bytes 4 (length op.bytes)) (op.client ∷ op.flags ∷ 0 ∷ 0 ∷ op.bytes)
    (bytes-append (big_bytes 4 op.tid) (big_bytes 4 (length op.bytes)) (bytes-big_bytes 4 op.tid) (bytes-big_bytes 4 (length op.bytes)))
    (bytes-cons op.client (op.flags ∷ 0 ∷ 0 ∷ op.bytes) w.client
    (bytes-cons op.flags (0 ∷ 0 ∷ op.bytes) w.flags (bytes-cons 0 (0 ∷ op.bytes) (omega arith) (bytes-cons 0 op.bytes (omega arith) (bytes_of_all op.bytes w.bytes)))))

bytes-operations : (ops : List Op) → All IsWritableOp ops → AreBytes (operations_spelling ops)
bytes-operations [] w = bytes_none
bytes-operations (op ∷ ops) w =
    bytes-append (operation_spelling op) (operations_spelling ops) (bytes-operation op (w 0 op (omega arith))) (bytes-operations ops (λ k other lt. w (suc k) other (omega arith)))

bytes-padded : (body : List ℕ) → AreBytes body → AreBytes (padded body)
bytes-padded body h = bytes-append body (replicate (sector_size * body_sectors (length body) - length body) 0) h (bytes-zeros (sector_size * body_sectors (length body) - length body))

bytes-first_words : (body : List ℕ) (k count : ℕ) → AreBytes body → AreBytes (first_words body k count)
unfolding first_words
bytes-first_words body k zero h = bytes_none
bytes-first_words body k (suc count) h =
    bytes-append (slice_range body (512 * k) (512 * k + 4)) (first_words body (suc k) count) (bytes-slice (512 * k) (512 * k + 4) body h) (bytes-first_words body (suc k) count h)

bytes-stamped_from : (stamp : ℕ → ℕ) (body : List ℕ) (k count : ℕ) → AreBytes body → AreBytes (stamped_from stamp body k count)
unfolding stamped_from
bytes-stamped_from stamp body k zero h = bytes_none
bytes-stamped_from stamp body k (suc count) h =
    bytes-append (big_bytes 4 (stamp k) ++ slice_range body (512 * k + 4) (512 * suc k)) (stamped_from stamp body (suc k) count)
    (bytes-append (big_bytes 4 (stamp k)) (slice_range body (512 * k + 4) (512 * suc k)) (bytes-big_bytes 4 (stamp k)) (bytes-slice (512 * k + 4) (512 * suc k) body h))
    (bytes-stamped_from stamp body (suc k) count h)

bytes-cycle_words : (body : List ℕ) → AreBytes body → AreBytes (cycle_words body)
bytes-cycle_words body h =
    bytes-append (first_words (padded body) 0 (body_sectors (length body))) (replicate (256 - 4 * body_sectors (length body)) 0)
    (bytes-first_words (padded body) 0 (body_sectors (length body)) (bytes-padded body h)) (bytes-zeros (256 - 4 * body_sectors (length body)))

bytes-header_front : (r : Record) → AreBytes (header_front r)
bytes-header_front r =
    let used : ℕ = length (operations_spelling r.ops) in
    six_numbers (big_bytes 4 0xfeedbabe) (big_bytes 4 r.cycle) (big_bytes 4 2) (big_bytes 4 used) (big_bytes 8 (r.cycle * 2 ^ 32 + r.sector)) (big_bytes 8 r.tail)
    (bytes-big_bytes 4 0xfeedbabe) (bytes-big_bytes 4 r.cycle) (bytes-big_bytes 4 2) (bytes-big_bytes 4 used) (bytes-big_bytes 8 (r.cycle * 2 ^ 32 + r.sector)) (bytes-big_bytes 8 r.tail)
  where
    six_numbers : (a b c d e f : List ℕ) → AreBytes a → AreBytes b → AreBytes c → AreBytes d → AreBytes e → AreBytes f → AreBytes (a ++ b ++ c ++ d ++ e ++ f)
    six_numbers a b c d e f ha hb hc hd he hf =
        bytes-append (a ++ b ++ c ++ d ++ e) f (bytes-append (a ++ b ++ c ++ d) e (bytes-append (a ++ b ++ c) d (bytes-append (a ++ b) c (bytes-append a b ha hb) hc) hd) he) hf

bytes-header_behind : (uuid : List ℕ) (r : Record) → AreBytes uuid → AreBytes (operations_spelling r.ops) → AreBytes (header_behind uuid r)
bytes-header_behind uuid r own body =
    let words : List ℕ = cycle_words (operations_spelling r.ops) in
    let a : List ℕ = big_bytes 4 r.previous in
    let b : List ℕ = big_bytes 4 (length r.ops) in
    let d : List ℕ = big_bytes 4 1 in
    let f : List ℕ = big_bytes 4 32768 in
    bytes-append (a ++ b ++ words ++ d ++ uuid) f
    (bytes-append (a ++ b ++ words ++ d) uuid
    (bytes-append (a ++ b ++ words) d
    (bytes-append (a ++ b) words (bytes-append a b (bytes-big_bytes 4 r.previous) (bytes-big_bytes 4 (length r.ops))) (bytes-cycle_words (operations_spelling r.ops) body))
    (bytes-big_bytes 4 1))
    own)
    (bytes-big_bytes 4 32768)

pub spelled_checksum_small : (ring_sectors : ℕ) (uuid : List ℕ) (r : Record) → All (λ byte. byte < 256) uuid → All IsWritableOp r.ops → spelled_checksum ring_sectors uuid r < 2 ^ 32
spelled_checksum_small ring_sectors uuid r own ops =
    let body : List ℕ = operations_spelling r.ops in
    let small = bytes-operations r.ops ops in
    let zeros : List ℕ = replicate 4 0 in
    let used : List ℕ = take (length body) (stamped_body ring_sectors r) in
    let stamped = bytes-stamped_from (stamp_of ring_sectors r.sector r.cycle) (padded body) 0 (body_sectors (length body)) (bytes-padded body small) in
    checksum_small (header_front r ++ zeros ++ header_behind uuid r ++ zeros ++ used)
    (bytes-append (header_front r ++ zeros ++ header_behind uuid r ++ zeros) used
    (bytes-append (header_front r ++ zeros ++ header_behind uuid r) zeros
    (bytes-append (header_front r ++ zeros) (header_behind uuid r) (bytes-append (header_front r) zeros (bytes-header_front r) (bytes-zeros 4)) (bytes-header_behind uuid r (bytes_of_all uuid own) small))
    (bytes-zeros 4))
    (bytes-take (length body) (stamped_body ring_sectors r) stamped))
