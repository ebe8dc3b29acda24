-- Bytes without a fault, and intact records.
use Rattle.std.proofs.Common.{◌≡◌, ℕ, zero, suc, ◌+◌, ◌*◌, ◌<◌, ◌≤◌, Bool, true, false, List, length, Option, Some, None, ◌==◌, ◌&&◌, ◌||◌, ◌⊎◌, inl, inr, replicate, bytes_eq, refl, sym, ◌∙◌, arith, subst}
use Rattle.std.specs.Prelude.{nat_le, nat_lt, if◌then◌else◌}
use Rattle.std.proofs.lemmas.Bool.Decides.{nat_tests, Decides-eqb}
use Rattle.std.proofs.lemmas.Slice.Eq.{bytes_eq-Decides}
use Rattle.xn_bytes.specs.Numbers.{number_at}
use Rattle.xn_log.specs.Records.{HasRecordChecksum, IsIntact, are_whole, body_of, body_sector_at, body_sectors, checksum_in, count_in, cycle_in, format_in, greatest_cycle, greatest_length, holds_unmount, is_uuid, length_in, lsn_in, lsn_of, magic_in, record_checksum, record_magic, record_sectors, sector_size, size_in, stamp_of, uuid_in, version_in}
use Rattle.xn_log.specs.RecordFaults.{body_end_fault, has_record_checksum, is_cycle, is_length, is_whole, record_fault, stamps_fault, unless, unless_checksum}
use Rattle.xn_record.specs.Checks.{end_fault, start_fault}
use Rattle.xn_record.proofs.Chains.{from_checksum, from_cycle, from_end, from_length, from_lsn, from_size, from_start, from_stamps, from_uuid, from_version}
use Rattle.xn_record.proofs.Walking.{both}

-- ---- tests

either : (a b : Bool) → (a || b) ≡ true → (a ≡ true) ⊎ (b ≡ true)
either true b e = inl refl
either false b e = inr e

left_true : (a b : Bool) → a ≡ true → (a || b) ≡ true
left_true a b e = rw e refl

right_true : (a b : Bool) → b ≡ true → (a || b) ≡ true
right_true true b e = refl
right_true false b e = e

both_true : (a b : Bool) → a ≡ true → b ≡ true → (a && b) ≡ true
both_true a b ea eb = rw (ea, eb) refl

-- ---- one field

-- a field is there and right, and nothing behind it is wrong
record IsClear (width at : ℕ) (is_right : Bool) (bytes : List ℕ) (behind : Option ℕ) : Type 0 where
  pub there : at + width ≤ length bytes
  pub right : is_right ≡ true
  pub rest : behind ≡ None

clear_by_tests : (is_short is_right : Bool) (place at : ℕ) (behind : Option ℕ) → (if is_short then Some place else if is_right then behind else Some at) ≡ None → (is_short ≡ false) × (is_right ≡ true) × (behind ≡ None)
clear_by_tests true is_right place at behind e = absurd cc
clear_by_tests false true place at behind e = (refl, refl, e)
clear_by_tests false false place at behind e = absurd cc

clear : (width at : ℕ) (is_right : Bool) (bytes : List ℕ) (behind : Option ℕ) → unless width at is_right bytes behind ≡ None → IsClear width at is_right bytes behind
clear width at is_right bytes behind e =
    let t = clear_by_tests (nat_lt (length bytes) (at + width)) is_right (length bytes) at behind e in
    let long : nat_lt (length bytes) (at + width) ≡ false = t.0 in
    record { there = grind (arith, nat_tests, long); right = t.1; rest = t.2 }

passed : (width at : ℕ) (is_right : Bool) (bytes : List ℕ) (behind : Option ℕ) → at + width ≤ length bytes → is_right ≡ true → unless width at is_right bytes behind ≡ behind
passed width at is_right bytes behind there right =
    let long : nat_lt (length bytes) (at + width) ≡ false = grind (arith, nat_tests) in
    rw (long, right) refl

-- ---- the checksum

checksum_by_test : (bytes : List ℕ) → has_record_checksum bytes ≡ true → HasRecordChecksum bytes
checksum_by_test bytes e =
    elim (either (checksum_in bytes == record_checksum bytes) ((checksum_in bytes == 0) && holds_unmount bytes) e) [
      | inl same ↦ inl ((Decides-eqb (checksum_in bytes) (record_checksum bytes)).0 same)
      | inr unmounted ↦
          let b = both (checksum_in bytes == 0) (holds_unmount bytes) unmounted in
          inr ((Decides-eqb (checksum_in bytes) 0).0 b.0, b.1)
    ]

test_by_checksum : (bytes : List ℕ) → HasRecordChecksum bytes → has_record_checksum bytes ≡ true
test_by_checksum bytes (inl same) =
    left_true (checksum_in bytes == record_checksum bytes) ((checksum_in bytes == 0) && holds_unmount bytes) ((Decides-eqb (checksum_in bytes) (record_checksum bytes)).1 same)
test_by_checksum bytes (inr unmounted) =
    right_true (checksum_in bytes == record_checksum bytes) ((checksum_in bytes == 0) && holds_unmount bytes)
    (both_true (checksum_in bytes == 0) (holds_unmount bytes) ((Decides-eqb (checksum_in bytes) 0).1 unmounted.0) unmounted.1)

checksum_by_tests : (whole right : Bool) (behind : Option ℕ) → (if whole then (if right then behind else Some 32) else behind) ≡ None → (behind ≡ None) × (whole ≡ true → right ≡ true)
checksum_by_tests true true behind e = (e, λ w. refl)
checksum_by_tests true false behind e = absurd cc
checksum_by_tests false right behind e = (e, λ w. absurd cc)

-- ---- the uuid

uuid_by_test : (own uuid : List ℕ) → (bytes_eq uuid own || bytes_eq uuid (replicate 16 0)) ≡ true → is_uuid own uuid
uuid_by_test own uuid e =
    elim (either (bytes_eq uuid own) (bytes_eq uuid (replicate 16 0)) e) [
      | inl same ↦ inl ((bytes_eq-Decides uuid own).0 same)
      | inr none ↦ inr ((bytes_eq-Decides uuid (replicate 16 0)).0 none)
    ]

test_by_uuid : (own uuid : List ℕ) → is_uuid own uuid → (bytes_eq uuid own || bytes_eq uuid (replicate 16 0)) ≡ true
test_by_uuid own uuid (inl same) = left_true (bytes_eq uuid own) (bytes_eq uuid (replicate 16 0)) ((bytes_eq-Decides uuid own).1 same)
test_by_uuid own uuid (inr none) = right_true (bytes_eq uuid own) (bytes_eq uuid (replicate 16 0)) ((bytes_eq-Decides uuid (replicate 16 0)).1 none)

-- ---- the body

stamps_clear : (ring_sectors sector : ℕ) (bytes : List ℕ) (from count : ℕ) → stamps_fault ring_sectors sector bytes from count ≡ None → ((k : ℕ) → from ≤ k → k < from + count → number_at 4 (body_sector_at k) bytes ≡ stamp_of ring_sectors sector (cycle_in bytes) k) × (body_end_fault bytes ≡ None)
unfolding stamps_fault
stamps_clear ring_sectors sector bytes from zero e = (λ k low high. absurd (omega arith), e)
stamps_clear ring_sectors sector bytes from (suc count) e =
    let here = clear 4 (body_sector_at from) (number_at 4 (body_sector_at from) bytes == stamp_of ring_sectors sector (cycle_in bytes) from) bytes (stamps_fault ring_sectors sector bytes (suc from) count) e in
    let rest = stamps_clear ring_sectors sector bytes (suc from) count here.rest in
    let stamp = (Decides-eqb (number_at 4 (body_sector_at from) bytes) (stamp_of ring_sectors sector (cycle_in bytes) from)).0 here.right in (
      λ k low high. elim (first_or_later from k low) [
        | inl same ↦
            let P : ℕ → Type 0 = λ k. number_at 4 (body_sector_at k) bytes ≡ stamp_of ring_sectors sector (cycle_in bytes) k in
            subst P same stamp
        | inr later ↦ rest.0 k later (omega arith)
      ],
      rest.1,
    )
  where
    first_or_later : (from k : ℕ) → from ≤ k → (from ≡ k) ⊎ (suc from ≤ k)
    first_or_later from k h = grind arith

stamps_passed : (ring_sectors sector : ℕ) (bytes : List ℕ) (from count : ℕ) → ((k : ℕ) → from ≤ k → k < from + count → number_at 4 (body_sector_at k) bytes ≡ stamp_of ring_sectors sector (cycle_in bytes) k) → 512 + 512 * (from + count) ≤ length bytes → stamps_fault ring_sectors sector bytes from count ≡ body_end_fault bytes
unfolding stamps_fault
stamps_passed ring_sectors sector bytes from zero stamped h = refl
stamps_passed ring_sectors sector bytes from (suc count) stamped h =
    let right = (Decides-eqb (number_at 4 (body_sector_at from) bytes) (stamp_of ring_sectors sector (cycle_in bytes) from)).1 (stamped from (omega arith) (omega arith)) in
    passed 4 (body_sector_at from) (number_at 4 (body_sector_at from) bytes == stamp_of ring_sectors sector (cycle_in bytes) from) bytes (stamps_fault ring_sectors sector bytes (suc from) count) (omega arith) right
    ∙ stamps_passed ring_sectors sector bytes (suc from) count (λ k low high. stamped k (omega arith) (omega arith)) (omega arith)

end_by_tests : (whole right : Bool) (at place : ℕ) → (if whole then (if right then None else Some at) else Some place) ≡ None → (whole ≡ true) × (right ≡ true)
end_by_tests true true at place e = (refl, refl)
end_by_tests true false at place e = absurd cc
end_by_tests false right at place e = absurd cc

-- ---- whole records

pub sound : (ring_sectors sector : ℕ) (uuid bytes : List ℕ) → record_fault ring_sectors sector uuid bytes ≡ None → IsIntact ring_sectors sector uuid bytes
sound ring_sectors sector uuid bytes e =
    let checksum : Option ℕ = from_checksum ring_sectors sector uuid bytes in
    let stamps : Option ℕ = from_stamps ring_sectors sector bytes in
    let magic = clear 4 0 (magic_in bytes == record_magic) bytes (from_cycle ring_sectors sector bytes checksum) (sym (from_start ring_sectors sector uuid bytes) ∙ e) in
    let cycle = clear 4 4 (is_cycle (cycle_in bytes)) bytes (from_version ring_sectors sector bytes checksum) magic.rest in
    let version = clear 4 8 (version_in bytes == 2) bytes (from_length ring_sectors sector bytes checksum) cycle.rest in
    let size = clear 4 12 (is_length ring_sectors (length_in bytes)) bytes (from_lsn sector bytes checksum) version.rest in
    let lsn = clear 8 16 (lsn_in bytes == lsn_of (cycle_in bytes) sector) bytes checksum size.rest in
    let sum = checksum_by_tests (is_whole bytes) (has_record_checksum bytes) (from_end ring_sectors sector uuid bytes) lsn.rest in
    let format = clear 4 300 (format_in bytes == 1) bytes (from_uuid uuid bytes stamps) sum.0 in
    let own = clear 16 304 (bytes_eq (uuid_in bytes) uuid || bytes_eq (uuid_in bytes) (replicate 16 0)) bytes (from_size bytes stamps) format.rest in
    let buffer = clear 4 320 (size_in bytes == 32768) bytes stamps own.rest in
    let stamped = stamps_clear ring_sectors sector bytes 0 (body_sectors (length_in bytes)) buffer.rest in
    let end = end_by_tests (is_whole bytes) (are_whole (count_in bytes) (body_of bytes)) (sector_size + length_in bytes) (length bytes) stamped.1 in
    let range = both (nat_le 1 (cycle_in bytes)) (nat_le (cycle_in bytes) greatest_cycle) cycle.right in
    let lengths = both (nat_le 1 (length_in bytes) && nat_le (length_in bytes) greatest_length) (nat_le (record_sectors bytes) ring_sectors) size.right in
    let bounds = both (nat_le 1 (length_in bytes)) (nat_le (length_in bytes) greatest_length) lengths.0 in
    record {
      magic = (Decides-eqb (magic_in bytes) record_magic).0 magic.right;
      cycle_least = grind (arith, nat_tests, range.0);
      cycle_most = grind (arith, nat_tests, range.1);
      version = (Decides-eqb (version_in bytes) 2).0 version.right;
      length_least = grind (arith, nat_tests, bounds.0);
      length_most = grind (arith, nat_tests, bounds.1);
      in_ring = grind (arith, nat_tests, lengths.1);
      lsn = (Decides-eqb (lsn_in bytes) (lsn_of (cycle_in bytes) sector)).0 lsn.right;
      whole = grind (arith, nat_tests, end.0);
      checksum = checksum_by_test bytes (sum.1 end.0);
      format = (Decides-eqb (format_in bytes) 1).0 format.right;
      own = uuid_by_test uuid (uuid_in bytes) own.right;
      size = (Decides-eqb (size_in bytes) 32768).0 buffer.right;
      stamps = λ k high. stamped.0 k (omega arith) (omega arith);
      operations = end.1;
    }

checksum_passed : (bytes : List ℕ) (behind : Option ℕ) → has_record_checksum bytes ≡ true → unless_checksum bytes behind ≡ behind
checksum_passed bytes behind right =
    let P : Bool → Type 0 = λ right. (if is_whole bytes then (if right then behind else Some 32) else behind) ≡ behind in
    subst P (sym right) (elim (is_whole bytes) as (λ whole. (if whole then (if true then behind else Some 32) else behind) ≡ behind) [ true ↦ refl | false ↦ refl ])

start_passed : (ring_sectors sector : ℕ) (uuid bytes : List ℕ) (behind : Option ℕ) → IsIntact ring_sectors sector uuid bytes → start_fault ring_sectors sector bytes behind ≡ behind
start_passed ring_sectors sector uuid bytes behind h =
    let least : nat_le 1 (cycle_in bytes) ≡ true = grind (arith, nat_tests, h.cycle_least) in
    let most : nat_le (cycle_in bytes) greatest_cycle ≡ true = grind (arith, nat_tests, h.cycle_most) in
    let some : nat_le 1 (length_in bytes) ≡ true = grind (arith, nat_tests, h.length_least) in
    let few : nat_le (length_in bytes) greatest_length ≡ true = grind (arith, nat_tests, h.length_most) in
    let short : nat_le (record_sectors bytes) ring_sectors ≡ true = grind (arith, nat_tests, h.in_ring) in
    passed 4 0 (magic_in bytes == record_magic) bytes (from_cycle ring_sectors sector bytes behind) (omega (arith, h.whole)) ((Decides-eqb (magic_in bytes) record_magic).1 h.magic)
    ∙ passed 4 4 (is_cycle (cycle_in bytes)) bytes (from_version ring_sectors sector bytes behind) (omega (arith, h.whole)) (both_true (nat_le 1 (cycle_in bytes)) (nat_le (cycle_in bytes) greatest_cycle) least most)
    ∙ passed 4 8 (version_in bytes == 2) bytes (from_length ring_sectors sector bytes behind) (omega (arith, h.whole)) ((Decides-eqb (version_in bytes) 2).1 h.version)
    ∙ passed 4 12 (is_length ring_sectors (length_in bytes)) bytes (from_lsn sector bytes behind) (omega (arith, h.whole))
    (both_true (nat_le 1 (length_in bytes) && nat_le (length_in bytes) greatest_length) (nat_le (record_sectors bytes) ring_sectors) (both_true (nat_le 1 (length_in bytes)) (nat_le (length_in bytes) greatest_length) some few) short)
    ∙ passed 8 16 (lsn_in bytes == lsn_of (cycle_in bytes) sector) bytes behind (omega (arith, h.whole)) ((Decides-eqb (lsn_in bytes) (lsn_of (cycle_in bytes) sector)).1 h.lsn)

end_passed : (ring_sectors sector : ℕ) (uuid bytes : List ℕ) (behind : Option ℕ) → IsIntact ring_sectors sector uuid bytes → end_fault uuid bytes behind ≡ behind
end_passed ring_sectors sector uuid bytes behind h =
    passed 4 300 (format_in bytes == 1) bytes (from_uuid uuid bytes behind) (omega (arith, h.whole)) ((Decides-eqb (format_in bytes) 1).1 h.format)
    ∙ passed 16 304 (bytes_eq (uuid_in bytes) uuid || bytes_eq (uuid_in bytes) (replicate 16 0)) bytes (from_size bytes behind) (omega (arith, h.whole)) (test_by_uuid uuid (uuid_in bytes) h.own)
    ∙ passed 4 320 (size_in bytes == 32768) bytes behind (omega (arith, h.whole)) ((Decides-eqb (size_in bytes) 32768).1 h.size)

body_passed : (bytes : List ℕ) → is_whole bytes ≡ true → are_whole (count_in bytes) (body_of bytes) ≡ true → body_end_fault bytes ≡ None
body_passed bytes whole operations = rw (whole, operations) refl

pub complete : (ring_sectors sector : ℕ) (uuid bytes : List ℕ) → IsIntact ring_sectors sector uuid bytes → record_fault ring_sectors sector uuid bytes ≡ None
complete ring_sectors sector uuid bytes h =
    let whole : is_whole bytes ≡ true = grind (arith, nat_tests, h.whole) in
    from_start ring_sectors sector uuid bytes
    ∙ start_passed ring_sectors sector uuid bytes (from_checksum ring_sectors sector uuid bytes) h
    ∙ checksum_passed bytes (from_end ring_sectors sector uuid bytes) (test_by_checksum bytes h.checksum)
    ∙ end_passed ring_sectors sector uuid bytes (from_stamps ring_sectors sector bytes) h
    ∙ stamps_passed ring_sectors sector bytes 0 (body_sectors (length_in bytes)) (λ k low high. h.stamps k (omega arith)) (omega (arith, h.whole))
    ∙ body_passed bytes whole h.operations
