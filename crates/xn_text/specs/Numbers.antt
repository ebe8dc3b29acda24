-- The texts of decimal numbers.
use Rattle.std.specs.Prelude.{◌≡◌, ◌≢◌, ℕ, ◌^◌, ◌<◌, List, length, slice_index}

-- no sign stands in front, and no zero but the one digit
pub record HasPlainFront (text : List ℕ) : Type 0 where
  pub no_sign : slice_index text 0 ≢ 43
  pub no_zero : slice_index text 0 ≡ 48 → length text ≡ 1

-- both numbers are below 2^64
abbrev pub AreSmall : ℕ × ℕ → Type 0
AreSmall pair = (pair.0 < 2 ^ 64) × (pair.1 < 2 ^ 64)
