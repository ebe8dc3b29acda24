-- Entries that stand whole in bytes, so that they can be read with no further test.
use Rattle.std.specs.Prelude.{ℕ, zero, suc, ◌+◌, ◌≤◌, List, length, drop, slice_index, IsSome}
use Rattle.xn_bytes.specs.Kinds.{kind_of_number}
use Rattle.xn_bytes.specs.ShortDirectory.{entry_size}

-- the entry at the front has all its bytes, and a kind
pub record IsWhole (width : ℕ) (rest : List ℕ) : Type 0 where
  pub within : entry_size width rest ≤ length rest
  pub kind : IsSome (kind_of_number (slice_index rest (3 + slice_index rest 0)))

-- each of so many entries at the front
abbrev pub AreWhole : ℕ → ℕ → List ℕ → Type 0
AreWhole zero width rest = Unit {0}
AreWhole (suc count) width rest = IsWhole width rest × AreWhole count width (drop (entry_size width rest) rest)
