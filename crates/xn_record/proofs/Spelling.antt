-- A record's bytes, put together.
use Rattle.std.proofs.Common.{◌≡◌, ℕ, ◌+◌, ◌-◌, ◌≤◌, List, ◌++◌, length, take, drop, Result, Ok, Err, refl, sym, ap, ◌∙◌, arith, append_assoc, length-append, replicate}
use Rattle.std.specs.Prelude.{OnOk, slice_range}
use Rattle.std.proofs.lemmas.List.{append-nil, drop_all, length-replicate, take_all, take_at, drop_at}
use Rattle.byteorder.specs.Endian.{little_bytes}
use Rattle.xn_bytes.specs.Numbers.{overlaid}
use Rattle.xn_bytes.specs.Checksum.{crc32c}
use Rattle.xn_log.specs.Spelled.{greatest_spelled, header_behind, header_front, operations_spelling, padded, record_spelling, spelled_checksum, stamped_body, stamped_from}
use Rattle.xn_log.specs.Records.{body_sectors, stamp_of}
use Rattle.xn_log.specs.declared.record.Record.{Record}
use Rattle.xn_record.specs.Writing.{header_without_checksum, with_checksum}
use Rattle.xn_record.proofs.SpelledLengths.{length-header_behind}

pub on_ok : {T E P Q : Type 0} (r : Result T E) → (P → Q) → OnOk r P → OnOk r Q
on_ok (Ok value) f h = f h
on_ok (Err error) f h = tt

-- what stands in a vector whose slice was written
pub written_back : (items slice : List ℕ) (count : ℕ) → length slice ≡ length items → count ≡ length items → take count (slice ++ drop (length slice) items) ≡ slice
written_back items slice count same all =
    ap (λ (rest : List ℕ). take count (slice ++ rest)) (drop_all (length slice) items (omega arith))
    ∙ ap (take count) (append-nil slice) ∙ take_all count slice (omega arith)

-- six pieces, one behind the other
pub six : (old a b c d e f x1 x2 x3 x4 x5 x6 : List ℕ) → x1 ≡ old ++ a → x2 ≡ x1 ++ b → x3 ≡ x2 ++ c → x4 ≡ x3 ++ d → x5 ≡ x4 ++ e → x6 ≡ x5 ++ f → x6 ≡ old ++ (a ++ b ++ c ++ d ++ e ++ f)
six old a b c d e f x1 x2 x3 x4 x5 x6 e1 e2 e3 e4 e5 e6 =
    let two : x2 ≡ old ++ (a ++ b) = e2 ∙ ap (λ (x : List ℕ). x ++ b) e1 ∙ append_assoc old a b in
    let three : x3 ≡ old ++ (a ++ b ++ c) = e3 ∙ ap (λ (x : List ℕ). x ++ c) two ∙ append_assoc old (a ++ b) c in
    let four : x4 ≡ old ++ (a ++ b ++ c ++ d) = e4 ∙ ap (λ (x : List ℕ). x ++ d) three ∙ append_assoc old (a ++ b ++ c) d in
    let five : x5 ≡ old ++ (a ++ b ++ c ++ d ++ e) = e5 ∙ ap (λ (x : List ℕ). x ++ e) four ∙ append_assoc old (a ++ b ++ c ++ d) e in
    e6 ∙ ap (λ (x : List ℕ). x ++ f) five ∙ append_assoc old (a ++ b ++ c ++ d ++ e) f

-- bytes laid over others of the same length between two pieces
pub laid_between : (front old behind over : List ℕ) (at : ℕ) → length front ≡ at → length over ≡ length old → overlaid ((front ++ old) ++ behind) at over ≡ (front ++ over) ++ behind
laid_between front old behind over at e same =
    let before : take at ((front ++ old) ++ behind) ≡ front = ap (take at) (append_assoc front old behind) ∙ take_at front (old ++ behind) at e in
    let after : drop (at + length over) ((front ++ old) ++ behind) ≡ behind = drop_at (front ++ old) behind (at + length over) (omega (arith, length-append front old)) in
    rw (before, after) refl

-- the header of written bytes, as far as the checksum covers it
abbrev covered : List ℕ → Record → List ℕ
covered uuid r = header_front r ++ replicate 4 0 ++ header_behind uuid r ++ replicate 4 0

length-covered : (uuid : List ℕ) (r : Record) → length uuid ≡ 16 → length (operations_spelling r.ops) ≤ greatest_spelled → length (covered uuid r) ≡ 328
length-covered uuid r own most =
    let front : length (header_front r ++ replicate 4 0) ≡ 36 = refl in
    omega (arith, length-append (header_front r ++ replicate 4 0 ++ header_behind uuid r) (replicate 4 0), length-append (header_front r ++ replicate 4 0) (header_behind uuid r), length-header_behind uuid r own most, length-replicate {A = ℕ})

header_parts : (uuid : List ℕ) (r : Record) → header_without_checksum uuid r ≡ covered uuid r ++ replicate 184 0
header_parts uuid r = sym (append_assoc (header_front r ++ replicate 4 0 ++ header_behind uuid r) (replicate 4 0) (replicate 184 0))

pub length-header : (uuid : List ℕ) (r : Record) → length uuid ≡ 16 → length (operations_spelling r.ops) ≤ greatest_spelled → length (header_without_checksum uuid r) ≡ 512
length-header uuid r own most =
    omega (arith, ap length (header_parts uuid r), length-append (covered uuid r) (replicate 184 0), length-covered uuid r own most, length-replicate {A = ℕ})

-- the checksum that is put in its place is that of the spelling
pub checksum_put : (ring_sectors : ℕ) (uuid : List ℕ) (r : Record) (bytes : List ℕ) (used : ℕ) → length uuid ≡ 16 → length (operations_spelling r.ops) ≤ greatest_spelled
    → bytes ≡ header_without_checksum uuid r ++ stamped_body ring_sectors r → used ≡ length (operations_spelling r.ops)
    → crc32c (overlaid (take 328 bytes) 32 (replicate 4 0) ++ slice_range bytes 512 (512 + used)) ≡ spelled_checksum ring_sectors uuid r
checksum_put ring_sectors uuid r bytes used own most e eu =
    let stamped : List ℕ = stamped_body ring_sectors r in
    let zeros : List ℕ = replicate 4 0 in
    let front : List ℕ = header_front r ++ zeros in
    let split : bytes ≡ covered uuid r ++ (replicate 184 0 ++ stamped) = e ∙ ap (λ (header : List ℕ). header ++ stamped) (header_parts uuid r) ∙ append_assoc (covered uuid r) (replicate 184 0) stamped in
    let head : take 328 bytes ≡ covered uuid r = ap (take 328) split ∙ take_at (covered uuid r) (replicate 184 0 ++ stamped) 328 (length-covered uuid r own most) in
    let regroup : covered uuid r ≡ front ++ (header_behind uuid r ++ zeros) = append_assoc front (header_behind uuid r) zeros in
    let same : overlaid (take 328 bytes) 32 zeros ≡ covered uuid r =
    ap (λ (header : List ℕ). overlaid header 32 zeros) (head ∙ regroup) ∙ laid_between (header_front r) zeros (header_behind uuid r ++ zeros) zeros 32 refl refl ∙ sym regroup in
    let count : 512 + used - 512 ≡ length (operations_spelling r.ops) = omega arith in
    let body : slice_range bytes 512 (512 + used) ≡ take (length (operations_spelling r.ops)) stamped =
    ap (λ (n : ℕ). take n (drop 512 bytes)) count
    ∙ ap (take (length (operations_spelling r.ops))) (ap (drop 512) e ∙ drop_at (header_without_checksum uuid r) stamped 512 (length-header uuid r own most)) in
    ap (λ (header : List ℕ). crc32c (header ++ slice_range bytes 512 (512 + used))) same
    ∙ ap (λ (piece : List ℕ). crc32c (covered uuid r ++ piece)) body

pub spelled : (ring_sectors : ℕ) (uuid : List ℕ) (r : Record) (bytes : List ℕ) (used : ℕ) → length uuid ≡ 16 → length (operations_spelling r.ops) ≤ greatest_spelled
    → bytes ≡ header_without_checksum uuid r ++ stamped_body ring_sectors r → used ≡ length (operations_spelling r.ops)
    → with_checksum bytes used ≡ record_spelling ring_sectors uuid r
spelled ring_sectors uuid r bytes used own most e eu =
    let stamped : List ℕ = stamped_body ring_sectors r in
    let zeros : List ℕ = replicate 4 0 in
    let sum : List ℕ = little_bytes 4 (spelled_checksum ring_sectors uuid r) in
    let behind : List ℕ = header_behind uuid r in
    let pad : List ℕ = replicate 188 0 in
    let H : List ℕ = header_front r in
    let parts : (over : List ℕ) → (((H ++ over) ++ behind) ++ pad) ++ stamped ≡ (H ++ over) ++ ((behind ++ pad) ++ stamped) =
    λ over. ap (λ (x : List ℕ). x ++ stamped) (append_assoc (H ++ over) behind pad) ∙ append_assoc (H ++ over) (behind ++ pad) stamped in
    ap (λ (n : ℕ). overlaid bytes 32 (little_bytes 4 n)) (checksum_put ring_sectors uuid r bytes used own most e eu)
    ∙ ap (λ (x : List ℕ). overlaid x 32 sum) (e ∙ parts zeros)
    ∙ laid_between H zeros ((behind ++ pad) ++ stamped) sum 32 refl refl
    ∙ sym (parts sum)

-- the header and the body behind it
pub together : (ring_sectors : ℕ) (uuid : List ℕ) (r : Record) (header body bytes : List ℕ) (used sectors : ℕ) → header ≡ header_without_checksum uuid r → body ≡ padded (operations_spelling r.ops)
    → used ≡ length (operations_spelling r.ops) → sectors ≡ body_sectors used
    → bytes ≡ header ++ stamped_from (stamp_of ring_sectors r.sector r.cycle) body 0 sectors → bytes ≡ header_without_checksum uuid r ++ stamped_body ring_sectors r
together ring_sectors uuid r header body bytes used sectors eh eb eu es e =
    let stamp : ℕ → ℕ = stamp_of ring_sectors r.sector r.cycle in
    e ∙ ap (λ (front : List ℕ). front ++ stamped_from stamp body 0 sectors) eh
    ∙ ap (λ (b : List ℕ). header_without_checksum uuid r ++ stamped_from stamp b 0 sectors) eb
    ∙ ap (λ (count : ℕ). header_without_checksum uuid r ++ stamped_from stamp (padded (operations_spelling r.ops)) 0 count) (es ∙ ap body_sectors eu)
