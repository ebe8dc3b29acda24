-- A source in memory as contracts see it, and which of its calls fail.
use Rattle.std.specs.Prelude.{ℕ, List, Contains}
use Rattle.xn_bytes.specs.Causes.{counted}

-- What is left of the input, the numbers of the calls that fail, and how many calls were made and failed.
pub record SourceState : Type 0 where
  pub left : List ℕ
  pub fails : List ℕ
  pub made : ℕ
  pub faults : ℕ

-- The next call fails: its number is listed. Calls after the one numbered 2^64 - 1 have that number too.
abbrev pub IsNextListed : SourceState → Type 0
IsNextListed s = Contains s.fails (counted s.made)
