-- A body is restored as it was spelled.
use Rattle.std.proofs.Common.{◌≡◌, ℕ, zero, suc, ◌+◌, ◌-◌, ◌*◌, ◌<◌, ◌≤◌, List, ◌++◌, length, take, drop, refl, sym, ap, ◌∙◌, arith, add-zero, length-append}
use Rattle.std.specs.Prelude.{slice_range}
use Rattle.std.proofs.lemmas.List.{take_at}
use Rattle.byteorder.specs.Endian.{big_bytes}
use Rattle.xn_bytes.proofs.Overlays.{length-slice_range, slice_range-append}
use Rattle.xn_log.specs.Records.{body_sector_at, restored_from}
use Rattle.xn_log.specs.Spelled.{first_words, stamped_from}
use Rattle.xn_record.proofs.Appending.{stamped_sector}
use Rattle.xn_record.proofs.Slices.{slice-append_left, slice-append_right}

-- the k-th of the first words
pub word_spelled : (body : List ℕ) (j count k : ℕ) → k < count → 512 * (j + count) ≤ length body → slice_range (first_words body j count) (4 * k) (4 * k + 4) ≡ slice_range body (512 * (j + k)) (512 * (j + k) + 4)
unfolding first_words
word_spelled body j zero k some h = absurd (omega arith)
word_spelled body j (suc count) zero some h =
    let word : List ℕ = slice_range body (512 * j) (512 * j + 4) in
    let long : length word ≡ 4 = omega (arith, length-slice_range body (512 * j) (512 * j + 4) (omega arith)) in
    let here : j + 0 ≡ j = add-zero j in
    take_at word (first_words body (suc j) count) 4 long ∙ ap (λ (at : ℕ). slice_range body (512 * at) (512 * at + 4)) (sym here)
word_spelled body j (suc count) (suc k) some h =
    let word : List ℕ = slice_range body (512 * j) (512 * j + 4) in
    let long : length word ≡ 4 = omega (arith, length-slice_range body (512 * j) (512 * j + 4) (omega arith)) in
    let from : 4 * suc k ≡ 4 + 4 * k = omega arith in
    let to : 4 * suc k + 4 ≡ 4 + (4 * k + 4) = omega arith in
    let here : suc j + k ≡ j + suc k = omega arith in
    ap (λ (at : ℕ). slice_range (word ++ first_words body (suc j) count) at (4 * suc k + 4)) from
    ∙ ap (slice_range (word ++ first_words body (suc j) count) (4 + 4 * k)) to
    ∙ slice-append_right word (first_words body (suc j) count) 4 (4 * k) (4 * k + 4) long
    ∙ word_spelled body (suc j) count k (omega arith) (omega arith)
    ∙ ap (λ (at : ℕ). slice_range body (512 * at) (512 * at + 4)) here

pub length-stamped_sector : (stamp : ℕ → ℕ) (body : List ℕ) (k : ℕ) → 512 * suc k ≤ length body → length (stamped_sector stamp body k) ≡ 512
length-stamped_sector stamp body k h =
    let word : length (big_bytes 4 (stamp k)) ≡ 4 = refl in
    omega (arith, length-append (big_bytes 4 (stamp k)) (slice_range body (512 * k + 4) (512 * suc k)), length-slice_range body (512 * k + 4) (512 * suc k) (omega arith))

-- a piece of the k-th stamped sector
pub sector_spelled : (stamp : ℕ → ℕ) (body : List ℕ) (j count k from to : ℕ) → k < count → 512 * (j + count) ≤ length body → from ≤ to → to ≤ 512
    → slice_range (stamped_from stamp body j count) (512 * k + from) (512 * k + to) ≡ slice_range (stamped_sector stamp body (j + k)) from to
unfolding stamped_from
sector_spelled stamp body j zero k from to some h order within = absurd (omega arith)
sector_spelled stamp body j (suc count) zero from to some h order within =
    let first : List ℕ = stamped_sector stamp body j in
    let low : 512 * 0 + from ≡ from = omega arith in
    let high : 512 * 0 + to ≡ to = omega arith in
    ap (λ (at : ℕ). slice_range (first ++ stamped_from stamp body (suc j) count) at (512 * 0 + to)) low
    ∙ ap (slice_range (first ++ stamped_from stamp body (suc j) count) from) high
    ∙ slice-append_left first (stamped_from stamp body (suc j) count) from to order (omega (arith, length-stamped_sector stamp body j (omega arith)))
    ∙ ap (λ (at : ℕ). slice_range (stamped_sector stamp body at) from to) (sym (add-zero j))
sector_spelled stamp body j (suc count) (suc k) from to some h order within =
    let first : List ℕ = stamped_sector stamp body j in
    let low : 512 * suc k + from ≡ 512 + (512 * k + from) = omega arith in
    let high : 512 * suc k + to ≡ 512 + (512 * k + to) = omega arith in
    let here : suc j + k ≡ j + suc k = omega arith in
    ap (λ (at : ℕ). slice_range (first ++ stamped_from stamp body (suc j) count) at (512 * suc k + to)) low
    ∙ ap (slice_range (first ++ stamped_from stamp body (suc j) count) (512 + (512 * k + from))) high
    ∙ slice-append_right first (stamped_from stamp body (suc j) count) 512 (512 * k + from) (512 * k + to) (length-stamped_sector stamp body j (omega arith))
    ∙ sector_spelled stamp body (suc j) count k from to (omega arith) (omega arith) order within
    ∙ ap (λ (at : ℕ). slice_range (stamped_sector stamp body at) from to) here

-- what is restored of bytes whose words and sectors are those of a body
pub restored_spelled : (bytes body : List ℕ) (k count : ℕ) → 512 * (k + count) ≤ length body
    → ((i : ℕ) → k ≤ i → i < k + count → slice_range bytes (44 + 4 * i) (48 + 4 * i) ≡ slice_range body (512 * i) (512 * i + 4))
    → ((i : ℕ) → k ≤ i → i < k + count → slice_range bytes (body_sector_at i + 4) (body_sector_at (suc i)) ≡ slice_range body (512 * i + 4) (512 * suc i))
    → restored_from bytes k count ≡ slice_range body (512 * k) (512 * (k + count))
unfolding restored_from
restored_spelled bytes body k zero h words rests =
    let none : 512 * (k + 0) - 512 * k ≡ 0 = omega arith in
    ap (λ (n : ℕ). take n (drop (512 * k) body)) (sym none)
restored_spelled bytes body k (suc count) h words rests =
    let end : suc k + count ≡ k + suc count = omega arith in
    ap (λ (w : List ℕ). w ++ slice_range bytes (body_sector_at k + 4) (body_sector_at (suc k)) ++ restored_from bytes (suc k) count) (words k (omega arith) (omega arith))
    ∙ ap (λ (r : List ℕ). slice_range body (512 * k) (512 * k + 4) ++ r ++ restored_from bytes (suc k) count) (rests k (omega arith) (omega arith))
    ∙ ap (λ (sector : List ℕ). sector ++ restored_from bytes (suc k) count) (slice_range-append body (512 * k) (512 * k + 4) (512 * suc k) (omega arith) (omega arith))
    ∙ ap (λ (behind : List ℕ). slice_range body (512 * k) (512 * suc k) ++ behind)
    (restored_spelled bytes body (suc k) count (omega arith) (λ i low high. words i (omega arith) (omega arith)) (λ i low high. rests i (omega arith) (omega arith)))
    ∙ slice_range-append body (512 * k) (512 * suc k) (512 * (suc k + count)) (omega arith) (omega arith)
    ∙ ap (λ (n : ℕ). slice_range body (512 * k) (512 * n)) end
