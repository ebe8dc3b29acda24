-- Numbers at places of bytes that agree there, and of bytes with others laid over them.
use Rattle.std.proofs.Common.{◌≡◌, ◌⊎◌, ℕ, ◌+◌, ◌-◌, ◌^◌, ◌<◌, ◌≤◌, List, ◌++◌, length, take, drop, sym, ap, ◌∙◌, arith, append_assoc}
use Rattle.std.specs.Prelude.{slice_range}
use Rattle.std.proofs.lemmas.List.{length-take, drop_at}
use Rattle.byteorder.specs.Endian.{big_bytes, big_number}
use Rattle.byteorder.specs.Numbers.{big_from-take, big_number-reads_back}
use Rattle.xn_bytes.specs.Numbers.{number_at, overlaid}
use Rattle.xn_bytes.proofs.Overlays.{slice_range-slice_range, slice_range-overlaid-apart}

-- a number is read from the piece that begins with it
pub number_in_piece : (width at to : ℕ) (xs : List ℕ) → at + width ≤ to → number_at width at xs ≡ big_number width (slice_range xs at to)
unfolding number_at
number_in_piece width at to xs h = sym (big_from-take 0 width (to - at) (drop at xs) (omega arith))

-- where a piece is the same, the numbers in it are
pub same_number : (width at from to : ℕ) (xs ys : List ℕ) → from ≤ at → at + width ≤ to → to ≤ length xs → to ≤ length ys → slice_range xs from to ≡ slice_range ys from to → number_at width at xs ≡ number_at width at ys
same_number width at from to xs ys low high wx wy same =
    let here : from + (at - from) ≡ at = omega arith in
    let end : from + (at + width - from) ≡ at + width = omega arith in
    let px : slice_range (slice_range xs from to) (at - from) (at + width - from) ≡ slice_range xs (from + (at - from)) (from + (at + width - from)) =
    slice_range-slice_range xs from to (at - from) (at + width - from) (omega arith) wx in
    let py : slice_range (slice_range ys from to) (at - from) (at + width - from) ≡ slice_range ys (from + (at - from)) (from + (at + width - from)) =
    slice_range-slice_range ys from to (at - from) (at + width - from) (omega arith) wy in
    let piece : slice_range xs at (at + width) ≡ slice_range ys at (at + width) = cc in
    number_in_piece width at (at + width) xs (omega arith)
    ∙ ap (λ (piece : List ℕ). big_number width piece) piece
    ∙ sym (number_in_piece width at (at + width) ys (omega arith))

-- a number elsewhere stays
pub number_at-overlaid-apart : (width from : ℕ) (xs : List ℕ) (at : ℕ) (over : List ℕ) → at + length over ≤ length xs → from + width ≤ length xs → (from + width ≤ at) ⊎ (at + length over ≤ from) → number_at width from (overlaid xs at over) ≡ number_at width from xs
number_at-overlaid-apart width from xs at over whole within apart =
    number_in_piece width from (from + width) (overlaid xs at over) (omega arith)
    ∙ ap (λ (piece : List ℕ). big_number width piece) (slice_range-overlaid-apart xs at over from (from + width) whole within apart)
    ∙ sym (number_in_piece width from (from + width) xs (omega arith))

-- the number that was laid down is read again
pub number_at-overlaid-there : (width at n : ℕ) (xs : List ℕ) → n < 256 ^ width → at + width ≤ length xs → number_at width at (overlaid xs at (big_bytes width n)) ≡ n
unfolding number_at
number_at-overlaid-there width at n xs small h =
    let front : length (take at xs) ≡ at = omega (arith, length-take at xs) in
    let rest : List ℕ = drop (at + length (big_bytes width n)) xs in
    let there : drop at (overlaid xs at (big_bytes width n)) ≡ big_bytes width n ++ rest = rw append_assoc (drop_at (take at xs) (big_bytes width n ++ rest) at front) in
    ap (λ (piece : List ℕ). big_number width piece) there ∙ big_number-reads_back width n rest small
