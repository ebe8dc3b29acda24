-- The words of a line.
use Rattle.std.specs.Prelude.{◌≡◌, ◌≢◌, ◌<◌, ℕ, List, Option, MatchOption, length, slice_index}
use Rattle.std.specs.Str.{IsAscii}
use Rattle.std.specs.Borrow.{Bor}
use Rattle.xn_meaning.specs.Replies.{space}

-- two words of ASCII, the first without a space
pub record AreWords (first second : List ℕ) : Type 0 where
  pub first_ascii : IsAscii first
  pub second_ascii : IsAscii second
  pub no_space : (k : ℕ) → k < length first → slice_index first k ≢ space

-- these were found
abbrev pub AreTheWords : List ℕ → List ℕ → Option (Bor (List ℕ) × Bor (List ℕ)) → Type 0
AreTheWords first second found = MatchOption found ⊥ (λ words. (words.0.now ≡ first) × (words.1.now ≡ second))
