-- What writes leave of a block.
use Rattle.std.proofs.Common.{◌≡◌, inl, inr, ℕ, ◌+◌, ◌-◌, ◌^◌, ◌<◌, ◌≤◌, List, length, ap, ◌∙◌, arith}
use Rattle.std.specs.Prelude.{slice_range}
use Rattle.byteorder.specs.Endian.{big_bytes}
use Rattle.byteorder.specs.Numbers.{length-bytes_high_first}
use Rattle.xn_bytes.specs.Numbers.{number_at, overlaid}
use Rattle.xn_bytes.proofs.Overlays.{length-overlaid, slice_range-slice_range, slice_range-overlaid-apart, slice_range-overlaid-there}
use Rattle.xn_bytes.proofs.PlacedNumbers.{same_number, number_at-overlaid-there}
use Rattle.xn_attrleaf.specs.Putting.{KeepsAround}

-- ---- what is told of a piece holds of those within it

pub same_piece : (from to a b : ℕ) (xs ys : List ℕ) → from ≤ a → a ≤ b → b ≤ to → to ≤ length xs → to ≤ length ys → slice_range xs from to ≡ slice_range ys from to → slice_range xs a b ≡ slice_range ys a b
same_piece from to a b xs ys low order high wx wy same =
    let here : from + (a - from) ≡ a = omega arith in
    let end : from + (b - from) ≡ b = omega arith in
    let px : slice_range (slice_range xs from to) (a - from) (b - from) ≡ slice_range xs (from + (a - from)) (from + (b - from)) =
    slice_range-slice_range xs from to (a - from) (b - from) (omega arith) wx in
    let py : slice_range (slice_range ys from to) (a - from) (b - from) ≡ slice_range ys (from + (a - from)) (from + (b - from)) =
    slice_range-slice_range ys from to (a - from) (b - from) (omega arith) wy in
    cc

pub piece_before : (from to a b : ℕ) (old new : List ℕ) → length old ≡ 4096 → KeepsAround from to old new → a ≤ b → b ≤ from → from ≤ 4096 → slice_range new a b ≡ slice_range old a b
piece_before from to a b old new size keeps order within bound = same_piece 0 from a b new old (omega arith) order within (omega (arith, keeps.whole)) (omega arith) keeps.before

pub piece_behind : (from to a b : ℕ) (old new : List ℕ) → length old ≡ 4096 → KeepsAround from to old new → to ≤ a → a ≤ b → b ≤ 4096 → slice_range new a b ≡ slice_range old a b
piece_behind from to a b old new size keeps within order bound = same_piece to 4096 a b new old within order bound (omega (arith, keeps.whole)) (omega arith) keeps.behind

pub number_before : (from to width at : ℕ) (old new : List ℕ) → length old ≡ 4096 → KeepsAround from to old new → at + width ≤ from → from ≤ 4096 → number_at width at new ≡ number_at width at old
number_before from to width at old new size keeps within bound = same_number width at 0 from new old (omega arith) within (omega (arith, keeps.whole)) (omega arith) keeps.before

pub number_behind : (from to width at : ℕ) (old new : List ℕ) → length old ≡ 4096 → KeepsAround from to old new → to ≤ at → at + width ≤ 4096 → number_at width at new ≡ number_at width at old
number_behind from to width at old new size keeps within bound = same_number width at to 4096 new old within bound (omega (arith, keeps.whole)) (omega arith) keeps.behind

-- ---- one write, and one after another

pub around_overlaid : (at to : ℕ) (old new over : List ℕ) → length old ≡ 4096 → new ≡ overlaid old at over → to ≡ at + length over → to ≤ 4096 → KeepsAround at to old new
around_overlaid at to old new over size is end within = record {
  whole = ap length is ∙ length-overlaid old at over (omega arith);
  before = ap (λ (xs : List ℕ). slice_range xs 0 at) is ∙ slice_range-overlaid-apart old at over 0 at (omega arith) (omega arith) (inl (omega arith));
  behind = ap (λ (xs : List ℕ). slice_range xs to 4096) is ∙ slice_range-overlaid-apart old at over to 4096 (omega arith) (omega arith) (inr (omega arith));
}

pub around_number : (width at to x : ℕ) (old new : List ℕ) → length old ≡ 4096 → new ≡ overlaid old at (big_bytes width x) → to ≡ at + width → to ≤ 4096 → KeepsAround at to old new
around_number width at to x old new size is end within =
    around_overlaid at to old new (big_bytes width x) size is (omega (arith, length-bytes_high_first width x)) within

pub number_put : (width at x : ℕ) (old new : List ℕ) → length old ≡ 4096 → new ≡ overlaid old at (big_bytes width x) → at + width ≤ 4096 → x < 256 ^ width → number_at width at new ≡ x
number_put width at x old new size is within small =
    ap (λ (xs : List ℕ). number_at width at xs) is ∙ number_at-overlaid-there width at x old small (omega arith)

pub piece_put : (at to : ℕ) (old new over : List ℕ) → length old ≡ 4096 → new ≡ overlaid old at over → to ≡ at + length over → to ≤ 4096 → slice_range new at to ≡ over
piece_put at to old new over size is end within =
    ap (λ (xs : List ℕ). slice_range xs at to) is ∙ slice_range-overlaid-there old at over to end (omega arith)

-- two pieces within one
pub around_both : (from to a b c d : ℕ) (old one new : List ℕ) → length old ≡ 4096 → KeepsAround a b old one → KeepsAround c d one new → from ≤ a → from ≤ c → b ≤ to → d ≤ to → a ≤ 4096 → c ≤ 4096 → to ≤ 4096 → KeepsAround from to old new
around_both from to a b c d old one new size first second low low2 high high2 there there2 within =
    let long : length one ≡ 4096 = first.whole ∙ size in
    record {
      whole = second.whole ∙ first.whole;
      before = piece_before c d 0 from one new long second (omega arith) low2 there2 ∙ piece_before a b 0 from old one size first (omega arith) low there;
      behind = piece_behind c d to 4096 one new long second high2 within (omega arith) ∙ piece_behind a b to 4096 old one size first high within (omega arith);
    }

pub around_wider : (from to a b : ℕ) (old new : List ℕ) → length old ≡ 4096 → KeepsAround a b old new → from ≤ a → b ≤ to → a ≤ 4096 → to ≤ 4096 → KeepsAround from to old new
around_wider from to a b old new size keeps low high there within = record {
  whole = keeps.whole;
  before = piece_before a b 0 from old new size keeps (omega arith) low there;
  behind = piece_behind a b to 4096 old new size keeps high within (omega arith);
}
