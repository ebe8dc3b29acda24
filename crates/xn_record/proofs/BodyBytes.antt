-- The bytes of a body, place by place.
use Rattle.std.proofs.Common.{◌≡◌, ℕ, zero, suc, ◌+◌, ◌-◌, ◌*◌, ◌/◌, ◌%◌, ◌<◌, ◌≤◌, List, [], ◌∷◌, ◌++◌, length, drop, get_or, slice_index, refl, sym, ap, ◌∙◌, arith, length-append, length-take, ◌==◌, ◌&&◌, add-zero, inl, inr}
use Rattle.std.specs.Prelude.{slice_range}
use Rattle.std.proofs.lemmas.List.{get_or-take, get_or-drop, get_or_append_left, get_or-append_right}
use Rattle.std.proofs.lemmas.Bool.{cases_lt}
use Rattle.std.proofs.lemmas.Bool.Decides.{nat_tests}
use Rattle.xn_bytes.specs.Numbers.{number_at}
use Rattle.xn_bytes.proofs.NumberLemmas.{one_byte}
use Rattle.xn_bytes.proofs.Overlays.{length-slice_range, get_or-slice_range}
use Rattle.xn_log.specs.Records.{body_of, body_sector_at, body_sectors, has_flag, is_unmount, length_in, log_client, operation_in, unmount_flag, restored_from, restored_sector}
use Rattle.xn_record.specs.Bodies.{standing_at}
use Rattle.xn_record.specs.Checks.{HasBody}

pub length-restored_sector : (bytes : List ℕ) (k : ℕ) → 1024 + 512 * k ≤ length bytes → length (restored_sector bytes k) ≡ 512
length-restored_sector bytes k h =
    let word : length (slice_range bytes (44 + 4 * k) (48 + 4 * k)) ≡ 48 + 4 * k - (44 + 4 * k) = length-slice_range bytes (44 + 4 * k) (48 + 4 * k) (omega arith) in
    let rest : length (slice_range bytes (body_sector_at k + 4) (body_sector_at (suc k))) ≡ body_sector_at (suc k) - (body_sector_at k + 4) = length-slice_range bytes (body_sector_at k + 4) (body_sector_at (suc k)) (omega arith) in
    omega (arith, length-append (slice_range bytes (44 + 4 * k) (48 + 4 * k)) (slice_range bytes (body_sector_at k + 4) (body_sector_at (suc k))))

pub length-restored_from : (bytes : List ℕ) (k count : ℕ) → 512 + 512 * (k + count) ≤ length bytes → length (restored_from bytes k count) ≡ 512 * count
unfolding restored_from
length-restored_from bytes k zero h = refl
length-restored_from bytes k (suc count) h =
    omega (arith, length-append (restored_sector bytes k) (restored_from bytes (suc k) count), length-restored_sector bytes k (omega arith), length-restored_from bytes (suc k) count (omega arith))

-- a byte of the word that was put back, and one behind it
low_byte : (bytes : List ℕ) (k i : ℕ) → i < 4 → 1024 + 512 * k ≤ length bytes → get_or (restored_sector bytes k) i 0 ≡ get_or bytes (44 + 4 * k + i) 0
low_byte bytes k i low h =
    let word : length (slice_range bytes (44 + 4 * k) (48 + 4 * k)) ≡ 48 + 4 * k - (44 + 4 * k) = length-slice_range bytes (44 + 4 * k) (48 + 4 * k) (omega arith) in
    get_or_append_left (slice_range bytes (44 + 4 * k) (48 + 4 * k)) (slice_range bytes (body_sector_at k + 4) (body_sector_at (suc k))) 0 i (omega arith)
    ∙ get_or-slice_range bytes (44 + 4 * k) (48 + 4 * k) i 0 (omega arith)

high_byte : (bytes : List ℕ) (k i : ℕ) → 4 ≤ i → i < 512 → 1024 + 512 * k ≤ length bytes → get_or (restored_sector bytes k) i 0 ≡ get_or bytes (512 + (512 * k + i)) 0
high_byte bytes k i low high h =
    let word : length (slice_range bytes (44 + 4 * k) (48 + 4 * k)) ≡ 4 = omega (arith, length-slice_range bytes (44 + 4 * k) (48 + 4 * k) (omega arith)) in
    let place : body_sector_at k + 4 + (i - 4) ≡ 512 + (512 * k + i) = omega arith in
    get_or-append_right (slice_range bytes (44 + 4 * k) (48 + 4 * k)) (slice_range bytes (body_sector_at k + 4) (body_sector_at (suc k))) 4 i 0 word low
    ∙ get_or-slice_range bytes (body_sector_at k + 4) (body_sector_at (suc k)) (i - 4) 0 (omega arith)
    ∙ ap (λ (at : ℕ). get_or bytes at 0) place

-- a byte of a restored body is that of its sector
sector_byte : (bytes : List ℕ) (k count j i : ℕ) → j < count → i < 512 → 512 + 512 * (k + count) ≤ length bytes → get_or (restored_from bytes k count) (512 * j + i) 0 ≡ get_or (restored_sector bytes (k + j)) i 0
unfolding restored_from
sector_byte bytes k zero j i some within h = absurd (omega arith)
sector_byte bytes k (suc count) zero i some within h =
    let here : 512 * 0 + i ≡ i = omega arith in
    let same : k + 0 ≡ k = omega arith in
    ap (λ (at : ℕ). get_or (restored_sector bytes k ++ restored_from bytes (suc k) count) at 0) here
    ∙ get_or_append_left (restored_sector bytes k) (restored_from bytes (suc k) count) 0 i (omega (arith, length-restored_sector bytes k (omega arith)))
    ∙ ap (λ (at : ℕ). get_or (restored_sector bytes at) i 0) (sym same)
sector_byte bytes k (suc count) (suc j) i some within h =
    let behind : 512 * suc j + i - 512 ≡ 512 * j + i = omega arith in
    let same : suc k + j ≡ k + suc j = omega arith in
    get_or-append_right (restored_sector bytes k) (restored_from bytes (suc k) count) 512 (512 * suc j + i) 0 (length-restored_sector bytes k (omega arith)) (omega arith)
    ∙ ap (λ (at : ℕ). get_or (restored_from bytes (suc k) count) at 0) behind
    ∙ sector_byte bytes (suc k) count j i (omega arith) within (omega arith)
    ∙ ap (λ (at : ℕ). get_or (restored_sector bytes at) i 0) same

-- where it stands
standing_byte : (bytes : List ℕ) (place : ℕ) → 1024 + 512 * (place / 512) ≤ length bytes → get_or (restored_sector bytes (place / 512)) (place % 512) 0 ≡ get_or bytes (standing_at place) 0
standing_byte bytes place h =
    let whole : 512 * (place / 512) + place % 512 ≡ place = omega arith in
    elim (cases_lt (place % 512) 4) [
      | inl low ↦
          let at : standing_at place ≡ 44 + 4 * (place / 512) + place % 512 = grind (arith, nat_tests) in
          low_byte bytes (place / 512) (place % 512) low h ∙ ap (λ (n : ℕ). get_or bytes n 0) (sym at)
      | inr high ↦
          let at : standing_at place ≡ 512 + (512 * (place / 512) + place % 512) = grind (arith, nat_tests) in
          high_byte bytes (place / 512) (place % 512) high (omega arith) h ∙ ap (λ (n : ℕ). get_or bytes n 0) (sym at)
    ]

pub length-body_of : (bytes : List ℕ) → HasBody bytes → length (body_of bytes) ≡ length_in bytes
length-body_of bytes body =
    omega (arith, length-take (length_in bytes) (restored_from bytes 0 (body_sectors (length_in bytes))), length-restored_from bytes 0 (body_sectors (length_in bytes)) (omega (arith, body.whole)))

pub body_of_byte : (bytes : List ℕ) (place : ℕ) → HasBody bytes → place < length_in bytes → slice_index (body_of bytes) place ≡ slice_index bytes (standing_at place)
body_of_byte bytes place body within =
    let whole : place ≡ 512 * (place / 512) + place % 512 = omega arith in
    let first : 0 + place / 512 ≡ place / 512 = omega arith in
    let restored : List ℕ = restored_from bytes 0 (body_sectors (length_in bytes)) in
    get_or-take (length_in bytes) restored place 0 within
    ∙ ap (λ (at : ℕ). get_or restored at 0) whole
    ∙ sector_byte bytes 0 (body_sectors (length_in bytes)) (place / 512) (place % 512) (omega arith) (omega arith) (omega (arith, body.whole))
    ∙ ap (λ (k : ℕ). get_or (restored_sector bytes k) (place % 512) 0) first
    ∙ standing_byte bytes place (omega (arith, body.whole))

-- four bytes of a body, read as a number
pub word_at : (body : List ℕ) (at b0 b1 b2 b3 : ℕ) → b0 ≡ slice_index body at → b1 ≡ slice_index body (at + 1) → b2 ≡ slice_index body (at + 2) → b3 ≡ slice_index body (at + 3)
    → number_at 4 0 (b0 ∷ b1 ∷ b2 ∷ b3 ∷ []) ≡ number_at 4 at body
unfolding number_at
word_at body at b0 b1 b2 b3 e0 e1 e2 e3 =
    let d0 : slice_index (drop at body) 0 ≡ b0 = get_or-drop at body 0 0 ∙ ap (slice_index body) (add-zero at) ∙ sym e0 in
    let d1 : slice_index (drop at body) 1 ≡ b1 = get_or-drop at body 1 0 ∙ sym e1 in
    let d2 : slice_index (drop at body) 2 ≡ b2 = get_or-drop at body 2 0 ∙ sym e2 in
    let d3 : slice_index (drop at body) 3 ≡ b3 = get_or-drop at body 3 0 ∙ sym e3 in
    rw (d0, d1, d2, d3) refl

-- whether the first operation is the unmount operation, by its bytes
pub unmount_by_bytes : (body : List ℕ) (client flags : ℕ) → client ≡ slice_index body 8 → flags ≡ slice_index body 9 → is_unmount (operation_in body) ≡ ((client == log_client) && has_flag flags unmount_flag)
unmount_by_bytes body client flags ec ef =
    let c : number_at 1 8 body ≡ client = one_byte 8 body ∙ sym ec in
    let f : number_at 1 9 body ≡ flags = one_byte 9 body ∙ sym ef in
    rw (c, f) refl
