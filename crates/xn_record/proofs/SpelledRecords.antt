-- Records are intact as they are spelled, and say what was spelled.
use Rattle.std.proofs.Common.{◌≡◌, ◌≢◌, ℕ, suc, ◌+◌, ◌-◌, ◌*◌, ◌^◌, ◌<◌, ◌≤◌, Bool, true, false, List, [], ◌∷◌, ◌++◌, length, take, drop, inl, refl, sym, ap, ◌∙◌, arith, append_assoc, length-append, length-drop, replicate, subst}
use Rattle.std.specs.Prelude.{nat_lt, slice_range, if◌then◌else◌}
use Rattle.std.proofs.lemmas.List.{drop-drop, drop_at, length-replicate, take_all, take_at}
use Rattle.byteorder.specs.Endian.{big_bytes, big_number, little_bytes}
use Rattle.byteorder.specs.Numbers.{big_number-reads_back, little_number-reads_back}
use Rattle.xn_bytes.specs.Numbers.{little_number_at, number_at, overlaid}
use Rattle.xn_bytes.specs.Checksum.{crc32c}
use Rattle.xn_bytes.proofs.Overlays.{length-slice_range}
use Rattle.xn_bytes.proofs.PlacedNumbers.{number_in_piece}
use Rattle.xn_log.specs.Records.{IsIntact, are_whole, body_of, body_sector_at, body_sectors, checksum_in, count_in, cycle_in, greatest_cycle, length_in, lsn_in, lsn_of, magic_in, operations_in, previous_in, record_checksum, record_in, record_magic, restored_from, sector_size, stamp_of, tail_in, uuid_in, version_in}
use Rattle.xn_log.specs.Spelled.{cycle_words, first_words, greatest_spelled, header_behind, header_front, operation_spelling, operations_spelling, padded, record_spelling, spelled_checksum, stamped_body}
use Rattle.xn_log.specs.declared.operation.Op.{Op}
use Rattle.xn_log.specs.declared.record.Record.{Record}
use Rattle.xn_record.specs.Writing.{IsWritable}
use Rattle.xn_record.proofs.ByteRanges.{spelled_checksum_small}
use Rattle.xn_record.proofs.Appending.{length-operation_spelling, stamped_sector}
use Rattle.xn_record.proofs.Spelling.{laid_between}
use Rattle.xn_record.proofs.Slices.{slice-append_left, slice_within}
use Rattle.xn_record.proofs.SpelledBodies.{restored_spelled, sector_spelled, word_spelled}
use Rattle.xn_record.proofs.SpelledLengths.{few_operations, length-cycle_words, length-first_words, length-header_behind, length-header_front, length-padded, length-stamped_body}
use Rattle.xn_record.proofs.SpelledOperations.{ops_spelled, whole_spelled}

-- ---- what stands where

-- the fields before the cycle words
abbrev front_spelled : ℕ → Record → List ℕ
front_spelled sum r = header_front r ++ little_bytes 4 sum ++ big_bytes 4 r.previous ++ big_bytes 4 (length r.ops)

regrouped : (h l p c w f u s d t b : List ℕ) → h ++ l ++ (p ++ c ++ w ++ f ++ u ++ s) ++ d ++ t ++ b ≡ h ++ l ++ p ++ c ++ (w ++ (f ++ (u ++ (s ++ (d ++ (t ++ b))))))
regrouped h l p c w f u s d t b = simp append_assoc

-- what a place is followed by
next_piece : (bytes piece rest : List ℕ) (at width : ℕ) → drop at bytes ≡ piece ++ rest → length piece ≡ width → drop (at + width) bytes ≡ rest
next_piece bytes piece rest at width e long = sym (drop-drop width at bytes) ∙ ap (drop width) e ∙ drop_at piece rest width long

-- the pieces of a record's bytes, by their places
record HasParts (ring_sectors : ℕ) (uuid : List ℕ) (r : Record) (bytes behind : List ℕ) : Type 0 where
  pub rest : List ℕ
  pub front : bytes ≡ front_spelled (spelled_checksum ring_sectors uuid r) r ++ rest
  pub words_rest : List ℕ
  pub words : drop 44 bytes ≡ cycle_words (operations_spelling r.ops) ++ words_rest
  pub format_rest : List ℕ
  pub format : drop 300 bytes ≡ big_bytes 4 1 ++ format_rest
  pub uuid_rest : List ℕ
  pub own : drop 304 bytes ≡ uuid ++ uuid_rest
  pub size_rest : List ℕ
  pub size : drop 320 bytes ≡ big_bytes 4 32768 ++ size_rest
  pub body : drop 512 bytes ≡ stamped_body ring_sectors r ++ behind

has_parts : (ring_sectors : ℕ) (uuid : List ℕ) (r : Record) (behind : List ℕ) → length uuid ≡ 16 → length (operations_spelling r.ops) ≤ greatest_spelled → HasParts ring_sectors uuid r (record_spelling ring_sectors uuid r ++ behind) behind
has_parts ring_sectors uuid r behind own most =
    let bytes : List ℕ = record_spelling ring_sectors uuid r ++ behind in
    let sum : List ℕ = little_bytes 4 (spelled_checksum ring_sectors uuid r) in
    let words : List ℕ = cycle_words (operations_spelling r.ops) in
    let stamped : List ℕ = stamped_body ring_sectors r in
    let after_size : List ℕ = replicate 188 0 ++ (stamped ++ behind) in
    let after_uuid : List ℕ = big_bytes 4 32768 ++ after_size in
    let after_format : List ℕ = uuid ++ after_uuid in
    let after_words : List ℕ = big_bytes 4 1 ++ after_format in
    let front : List ℕ = front_spelled (spelled_checksum ring_sectors uuid r) r in
    let whole : bytes ≡ front ++ (words ++ after_words) = regrouped (header_front r) sum (big_bytes 4 r.previous) (big_bytes 4 (length r.ops)) words (big_bytes 4 1) uuid (big_bytes 4 32768) (replicate 188 0) stamped behind in
    let at_words : drop 44 bytes ≡ words ++ after_words = ap (drop 44) whole ∙ drop_at front (words ++ after_words) 44 refl in
    let at_format : drop 300 bytes ≡ after_words = next_piece bytes words after_words 44 256 at_words (length-cycle_words (operations_spelling r.ops) most) in
    let at_uuid : drop 304 bytes ≡ after_format = next_piece bytes (big_bytes 4 1) after_format 300 4 at_format refl in
    let at_size : drop 320 bytes ≡ after_uuid = next_piece bytes uuid after_uuid 304 16 at_uuid own in
    let at_free : drop 324 bytes ≡ after_size = next_piece bytes (big_bytes 4 32768) after_size 320 4 at_size refl in
    let at_body : drop 512 bytes ≡ stamped ++ behind = next_piece bytes (replicate 188 0) (stamped ++ behind) 324 188 at_free refl in
    record {
      rest = words ++ after_words;
      front = whole;
      words_rest = after_words;
      words = at_words;
      format_rest = after_format;
      format = at_format;
      uuid_rest = after_uuid;
      own = at_uuid;
      size_rest = after_size;
      size = at_size;
      body = at_body;
    }

-- ---- the fields

number_from : (width at n : ℕ) (bytes rest : List ℕ) → drop at bytes ≡ big_bytes width n ++ rest → n < 256 ^ width → number_at width at bytes ≡ n
unfolding number_at
number_from width at n bytes rest e small = ap (big_number width) e ∙ big_number-reads_back width n rest small

record FrontReads (sum : ℕ) (r : Record) (bytes : List ℕ) : Type 0 where
  pub magic : magic_in bytes ≡ record_magic
  pub cycle : cycle_in bytes ≡ r.cycle
  pub version : version_in bytes ≡ 2
  pub used : length_in bytes ≡ length (operations_spelling r.ops)
  pub lsn : lsn_in bytes ≡ lsn_of r.cycle r.sector
  pub tail : tail_in bytes ≡ r.tail
  pub stored : checksum_in bytes ≡ sum
  pub previous : previous_in bytes ≡ r.previous
  pub count : count_in bytes ≡ length r.ops

front_reads : (ring_sectors : ℕ) (uuid : List ℕ) (r : Record) (rest : List ℕ) → IsWritable ring_sectors uuid r → FrontReads (spelled_checksum ring_sectors uuid r) r (front_spelled (spelled_checksum ring_sectors uuid r) r ++ rest)
unfolding number_at little_number_at
front_reads ring_sectors uuid r rest w =
    let few : 12 * length r.ops ≤ length (operations_spelling r.ops) = few_operations r.ops in
    let most : length (operations_spelling r.ops) ≤ greatest_spelled = w.spellable.most in
    let cycle : r.cycle ≤ greatest_cycle = w.spellable.cycle_most in
    let within : r.sector < ring_sectors = w.spellable.within in
    let ring : ring_sectors ≤ 2 ^ 32 = w.ring in
    record {
      magic = big_number-reads_back 4 record_magic [] (omega arith);
      cycle = big_number-reads_back 4 r.cycle [] (omega arith);
      version = big_number-reads_back 4 2 [] (omega arith);
      used = big_number-reads_back 4 (length (operations_spelling r.ops)) [] (omega arith);
      lsn = big_number-reads_back 8 (lsn_of r.cycle r.sector) [] (omega arith);
      tail = big_number-reads_back 8 r.tail [] (omega (arith, w.tail));
      stored = little_number-reads_back 4 (spelled_checksum ring_sectors uuid r) [] (omega (arith, spelled_checksum_small ring_sectors uuid r w.own_bytes w.ops));
      previous = big_number-reads_back 4 r.previous [] (omega (arith, w.previous));
      count = big_number-reads_back 4 (length r.ops) [] (omega arith);
    }

front_reads_of : (ring_sectors : ℕ) (uuid : List ℕ) (r : Record) (bytes behind : List ℕ) → HasParts ring_sectors uuid r bytes behind → IsWritable ring_sectors uuid r → FrontReads (spelled_checksum ring_sectors uuid r) r bytes
front_reads_of ring_sectors uuid r bytes behind parts w =
    let P : List ℕ → Type 0 = λ b. FrontReads (spelled_checksum ring_sectors uuid r) r b in
    subst P (sym parts.front) (front_reads ring_sectors uuid r parts.rest w)

-- ---- the body

body_read : (ring_sectors : ℕ) (uuid : List ℕ) (r : Record) (bytes behind : List ℕ) → HasParts ring_sectors uuid r bytes behind → length (operations_spelling r.ops) ≤ greatest_spelled → length_in bytes ≡ length (operations_spelling r.ops) → body_of bytes ≡ operations_spelling r.ops
body_read ring_sectors uuid r bytes behind parts most used =
    let body : List ℕ = operations_spelling r.ops in
    let count : ℕ = body_sectors (length body) in
    let whole : List ℕ = padded body in
    let long : length whole ≡ 512 * count = length-padded body in
    let stamp : ℕ → ℕ = stamp_of ring_sectors r.sector r.cycle in
    let zeros : List ℕ = replicate (256 - 4 * count) 0 in
    let few : length (first_words whole 0 count) ≡ 4 * count = length-first_words whole 0 count (omega arith) in
    let words_long : length (cycle_words body) ≡ 256 = length-cycle_words body most in
    let stamped_long : length (stamped_body ring_sectors r) ≡ 512 * count = length-stamped_body ring_sectors r in
    let word : (i : ℕ) → 0 ≤ i → i < 0 + count → slice_range bytes (44 + 4 * i) (48 + 4 * i) ≡ slice_range whole (512 * i) (512 * i + 4) = λ i low high.
    (let end : 48 + 4 * i ≡ 44 + (4 * i + 4) = omega arith in
    let here : 0 + i ≡ i = omega arith in
    ap (slice_range bytes (44 + 4 * i)) end
    ∙ slice_within bytes (cycle_words body) parts.words_rest 44 (4 * i) (4 * i + 4) parts.words (omega arith) (omega arith)
    ∙ slice-append_left (first_words whole 0 count) zeros (4 * i) (4 * i + 4) (omega arith) (omega arith)
    ∙ word_spelled whole 0 count i (omega arith) (omega arith)
    ∙ ap (λ (at : ℕ). slice_range whole (512 * at) (512 * at + 4)) here) in
    let sector : (i : ℕ) → 0 ≤ i → i < 0 + count → slice_range bytes (body_sector_at i + 4) (body_sector_at (suc i)) ≡ slice_range whole (512 * i + 4) (512 * suc i) = λ i low high.
    (let from : body_sector_at i + 4 ≡ 512 + (512 * i + 4) = omega arith in
    let to : body_sector_at (suc i) ≡ 512 + (512 * i + 512) = omega arith in
    let here : 0 + i ≡ i = omega arith in
    ap (λ (at : ℕ). slice_range bytes at (body_sector_at (suc i))) from
    ∙ ap (slice_range bytes (512 + (512 * i + 4))) to
    ∙ slice_within bytes (stamped_body ring_sectors r) behind 512 (512 * i + 4) (512 * i + 512) parts.body (omega arith) (omega arith)
    ∙ sector_spelled stamp whole 0 count i 4 512 (omega arith) (omega arith) (omega arith) (omega arith)
    ∙ ap (λ (at : ℕ). slice_range (stamped_sector stamp whole at) 4 512) here
    ∙ behind_stamp stamp whole i (omega arith)) in
    ap (λ (n : ℕ). take n (restored_from bytes 0 (body_sectors n))) used
    ∙ ap (take (length body)) (restored_spelled bytes whole 0 count (omega arith) word sector)
    ∙ ap (take (length body)) (all_of whole (512 * 0) (512 * (0 + count)) (omega arith) (omega arith))
    ∙ take_at body (replicate (sector_size * count - length body) 0) (length body) refl
  where
    all_of : (xs : List ℕ) (from to : ℕ) → from ≡ 0 → to ≡ length xs → slice_range xs from to ≡ xs
    all_of xs from to none end =
        let width : to - from ≡ length xs = omega arith in
        ap (λ (n : ℕ). take (to - from) (drop n xs)) none ∙ ap (λ (n : ℕ). take n xs) width ∙ take_all (length xs) xs (omega arith)

    behind_stamp : (stamp : ℕ → ℕ) (whole : List ℕ) (i : ℕ) → 512 * suc i ≤ length whole → slice_range (stamped_sector stamp whole i) 4 512 ≡ slice_range whole (512 * i + 4) (512 * suc i)
    behind_stamp stamp whole i h =
        let piece : List ℕ = slice_range whole (512 * i + 4) (512 * suc i) in
        let long : length piece ≡ 508 = omega (arith, length-slice_range whole (512 * i + 4) (512 * suc i) (omega arith)) in
        take_all 508 piece (omega arith)

-- ---- the stamps

stamp_small : (ring_sectors sector cycle k : ℕ) → cycle ≤ greatest_cycle → stamp_of ring_sectors sector cycle k < 256 ^ 4
stamp_small ring_sectors sector cycle k h =
    by_test (nat_lt (sector + 1 + k) ring_sectors) cycle h
  where
    by_test : (b : Bool) (cycle : ℕ) → cycle ≤ greatest_cycle → (if b then cycle else cycle + 1) < 256 ^ 4
    by_test true cycle h = omega arith
    by_test false cycle h = omega arith

stamp_read : (stamp : ℕ → ℕ) (body : List ℕ) (k : ℕ) → stamp k < 256 ^ 4 → big_number 4 (slice_range (stamped_sector stamp body k) 0 4) ≡ stamp k
stamp_read stamp body k small = big_number-reads_back 4 (stamp k) [] small

stamped_read : (ring_sectors : ℕ) (uuid : List ℕ) (r : Record) (bytes behind : List ℕ) (k : ℕ) → HasParts ring_sectors uuid r bytes behind → r.cycle ≤ greatest_cycle → k < body_sectors (length (operations_spelling r.ops))
    → number_at 4 (body_sector_at k) bytes ≡ stamp_of ring_sectors r.sector r.cycle k
stamped_read ring_sectors uuid r bytes behind k parts most some =
    let body : List ℕ = operations_spelling r.ops in
    let whole : List ℕ = padded body in
    let stamp : ℕ → ℕ = stamp_of ring_sectors r.sector r.cycle in
    let long : length whole ≡ 512 * body_sectors (length body) = length-padded body in
    let stamped_long : length (stamped_body ring_sectors r) ≡ 512 * body_sectors (length body) = length-stamped_body ring_sectors r in
    let from : 512 + 512 * k ≡ 512 + (512 * k + 0) = omega arith in
    let to : body_sector_at k + 4 ≡ 512 + (512 * k + 4) = omega arith in
    let here : 0 + k ≡ k = omega arith in
    number_in_piece 4 (body_sector_at k) (body_sector_at k + 4) bytes (omega arith)
    ∙ ap (λ (at : ℕ). big_number 4 (slice_range bytes at (body_sector_at k + 4))) from
    ∙ ap (λ (at : ℕ). big_number 4 (slice_range bytes (512 + (512 * k + 0)) at)) to
    ∙ ap (big_number 4)
    (slice_within bytes (stamped_body ring_sectors r) behind 512 (512 * k + 0) (512 * k + 4) parts.body (omega arith) (omega arith)
    ∙ sector_spelled stamp whole 0 (body_sectors (length body)) k 0 4 some (omega arith) (omega arith) (omega arith)
    ∙ ap (λ (at : ℕ). slice_range (stamped_sector stamp whole at) 0 4) here)
    ∙ stamp_read stamp whole k (stamp_small ring_sectors r.sector r.cycle k most)

-- ---- the checksum

abbrev covered_with : List ℕ → List ℕ → Record → List ℕ
covered_with sum uuid r = header_front r ++ sum ++ header_behind uuid r ++ replicate 4 0

length-covered_with : (sum uuid : List ℕ) (r : Record) → length sum ≡ 4 → length uuid ≡ 16 → length (operations_spelling r.ops) ≤ greatest_spelled → length (covered_with sum uuid r) ≡ 328
length-covered_with sum uuid r four own most =
    omega (arith, length-append (header_front r ++ sum ++ header_behind uuid r) (replicate 4 0), length-append (header_front r ++ sum) (header_behind uuid r), length-append (header_front r) sum, length-header_front r, length-header_behind uuid r own most, length-replicate {A = ℕ})

checksum_read : (ring_sectors : ℕ) (uuid : List ℕ) (r : Record) (behind : List ℕ) → HasParts ring_sectors uuid r (record_spelling ring_sectors uuid r ++ behind) behind → length uuid ≡ 16 → length (operations_spelling r.ops) ≤ greatest_spelled
    → length_in (record_spelling ring_sectors uuid r ++ behind) ≡ length (operations_spelling r.ops) → record_checksum (record_spelling ring_sectors uuid r ++ behind) ≡ spelled_checksum ring_sectors uuid r
checksum_read ring_sectors uuid r behind parts own most used =
    let bytes : List ℕ = record_spelling ring_sectors uuid r ++ behind in
    let sum : List ℕ = little_bytes 4 (spelled_checksum ring_sectors uuid r) in
    let zeros : List ℕ = replicate 4 0 in
    let stamped : List ℕ = stamped_body ring_sectors r in
    let body : List ℕ = operations_spelling r.ops in
    let stamped_long : length stamped ≡ 512 * body_sectors (length body) = length-stamped_body ring_sectors r in
    let cut : (h l b z p t e : List ℕ) → h ++ l ++ b ++ (z ++ p) ++ t ++ e ≡ h ++ l ++ b ++ z ++ (p ++ (t ++ e)) = λ h l b z p t e. simp append_assoc in
    let head : take 328 bytes ≡ covered_with sum uuid r =
    ap (take 328) (cut (header_front r) sum (header_behind uuid r) zeros (replicate 184 0) stamped behind)
    ∙ take_at (covered_with sum uuid r) (replicate 184 0 ++ (stamped ++ behind)) 328 (length-covered_with sum uuid r refl own most) in
    let regroup : (l : List ℕ) → covered_with l uuid r ≡ header_front r ++ l ++ (header_behind uuid r ++ zeros) = λ l. append_assoc (header_front r ++ l) (header_behind uuid r) zeros in
    let cleared : overlaid (take 328 bytes) 32 zeros ≡ covered_with zeros uuid r =
    ap (λ (header : List ℕ). overlaid header 32 zeros) (head ∙ regroup sum) ∙ laid_between (header_front r) sum (header_behind uuid r ++ zeros) zeros 32 refl refl ∙ sym (regroup zeros) in
    let from : 512 ≡ 512 + 0 = refl in
    let piece : slice_range bytes 512 (512 + length body) ≡ take (length body) stamped =
    slice_within bytes stamped behind 512 0 (length body) parts.body (omega arith) (omega arith) ∙ ap (λ (n : ℕ). take n stamped) (whole_width (length body)) in
    ap (λ (n : ℕ). crc32c (overlaid (take 328 bytes) 32 zeros ++ slice_range bytes 512 (512 + n))) used
    ∙ ap (λ (header : List ℕ). crc32c (header ++ slice_range bytes 512 (512 + length body))) cleared
    ∙ ap (λ (p : List ℕ). crc32c (covered_with zeros uuid r ++ p)) piece
  where
    whole_width : (n : ℕ) → n - 0 ≡ n
    whole_width n = omega arith

-- ---- the record

some_bytes : (ops : List Op) → ops ≢ [] → 12 ≤ length (operations_spelling ops)
some_bytes [] some = absurd (some refl)
some_bytes (op ∷ ops) some = omega (arith, length-append (operation_spelling op) (operations_spelling ops), length-operation_spelling op)

long_enough : (ring_sectors : ℕ) (uuid : List ℕ) (r : Record) (bytes behind : List ℕ) → HasParts ring_sectors uuid r bytes behind → 12 ≤ length (operations_spelling r.ops) → 512 * (1 + body_sectors (length (operations_spelling r.ops))) ≤ length bytes
long_enough ring_sectors uuid r bytes behind parts some =
    omega (arith, ap length parts.body, length-drop 512 bytes, length-append (stamped_body ring_sectors r) behind, length-stamped_body ring_sectors r)

uuid_read : (ring_sectors : ℕ) (uuid : List ℕ) (r : Record) (bytes behind : List ℕ) → HasParts ring_sectors uuid r bytes behind → length uuid ≡ 16 → uuid_in bytes ≡ uuid
uuid_read ring_sectors uuid r bytes behind parts own = ap (take 16) parts.own ∙ take_at uuid parts.uuid_rest 16 own

pub intact_spelled : (ring_sectors : ℕ) (uuid behind : List ℕ) (r : Record) → IsWritable ring_sectors uuid r → IsIntact ring_sectors r.sector uuid (record_spelling ring_sectors uuid r ++ behind)
intact_spelled ring_sectors uuid behind r w =
    let bytes : List ℕ = record_spelling ring_sectors uuid r ++ behind in
    let most : length (operations_spelling r.ops) ≤ greatest_spelled = w.spellable.most in
    let parts = has_parts ring_sectors uuid r behind w.own most in
    let reads = front_reads_of ring_sectors uuid r bytes behind parts w in
    let some : 12 ≤ length (operations_spelling r.ops) = some_bytes r.ops w.spellable.some in
    let used : length_in bytes ≡ length (operations_spelling r.ops) = reads.used in
    let body : body_of bytes ≡ operations_spelling r.ops = body_read ring_sectors uuid r bytes behind parts most used in
    record {
      magic = reads.magic;
      cycle_least = omega (arith, reads.cycle, w.spellable.cycle_least);
      cycle_most = omega (arith, reads.cycle, w.spellable.cycle_most);
      version = reads.version;
      length_least = omega (arith, used, some);
      length_most = omega (arith, used, most);
      in_ring = omega (arith, used, w.spellable.in_ring);
      lsn = reads.lsn ∙ ap (λ (cycle : ℕ). lsn_of cycle r.sector) (sym reads.cycle);
      whole = omega (arith, used, long_enough ring_sectors uuid r bytes behind parts some);
      checksum = inl (reads.stored ∙ sym (checksum_read ring_sectors uuid r behind parts w.own most used));
      format = number_from 4 300 1 bytes parts.format_rest parts.format (omega arith);
      own = inl (uuid_read ring_sectors uuid r bytes behind parts w.own);
      size = number_from 4 320 32768 bytes parts.size_rest parts.size (omega arith);
      stamps = λ k high. stamped_read ring_sectors uuid r bytes behind k parts w.spellable.cycle_most (omega (arith, used, high))
          ∙ ap (λ (cycle : ℕ). stamp_of ring_sectors r.sector cycle k) (sym reads.cycle);
      operations = ap (λ (count : ℕ). are_whole count (body_of bytes)) reads.count ∙ ap (are_whole (length r.ops)) body ∙ whole_spelled r.ops most;
    }

record_of : ℕ → ℕ → ℕ → ℕ → List Op → Record
record_of cycle sector tail previous ops = record { cycle = cycle; sector = sector; tail = tail; previous = previous; ops = ops }

pub record_spelled : (ring_sectors : ℕ) (uuid behind : List ℕ) (r : Record) → IsWritable ring_sectors uuid r → record_in r.sector (record_spelling ring_sectors uuid r ++ behind) ≡ r
unfolding record_of
record_spelled ring_sectors uuid behind r w =
    let bytes : List ℕ = record_spelling ring_sectors uuid r ++ behind in
    let most : length (operations_spelling r.ops) ≤ greatest_spelled = w.spellable.most in
    let parts = has_parts ring_sectors uuid r behind w.own most in
    let reads = front_reads_of ring_sectors uuid r bytes behind parts w in
    let body : body_of bytes ≡ operations_spelling r.ops = body_read ring_sectors uuid r bytes behind parts most reads.used in
    let ops : operations_in (count_in bytes) (body_of bytes) ≡ r.ops =
    ap (λ (count : ℕ). operations_in count (body_of bytes)) reads.count ∙ ap (operations_in (length r.ops)) body ∙ ops_spelled r.ops most (λ k op lt. (w.ops k op lt).tid) in
    ap (λ (cycle : ℕ). record_of cycle r.sector (tail_in bytes) (previous_in bytes) (operations_in (count_in bytes) (body_of bytes))) reads.cycle
    ∙ ap (λ (tail : ℕ). record_of r.cycle r.sector tail (previous_in bytes) (operations_in (count_in bytes) (body_of bytes))) reads.tail
    ∙ ap (λ (previous : ℕ). record_of r.cycle r.sector r.tail previous (operations_in (count_in bytes) (body_of bytes))) reads.previous
    ∙ ap (λ (all : List Op). record_of r.cycle r.sector r.tail r.previous all) ops
