-- Runs by their starts: the first block of each, and how many blocks all runs before it have.
use Rattle.std.specs.Prelude.{◌≡◌, ℕ, ◌+◌, ◌-◌, ◌^◌, ◌<◌, ◌≤◌, List, [], ◌∷◌, ◌++◌, length, slice_index_or}
use Rattle.std.specs.List.{range_with_len}
use Rattle.xn_pool.specs.declared.runs.Start.{Start}

-- how many blocks there are before these starts, of so many in all
abbrev pub position_of_first : List Start → ℕ → ℕ
position_of_first [] count = count
position_of_first (start ∷ starts) count = start.position

-- the blocks of the runs
abbrev pub blocks_from : List Start → ℕ → List ℕ
blocks_from [] count = []
blocks_from (start ∷ starts) count = range_with_len start.block (position_of_first starts count - start.position) ++ blocks_from starts count

-- The runs rise, none is empty, no two overlap, and each ends at 2^56 at most; the positions go on from one to the next.
abbrev pub AreStarts : ℕ → ℕ → List Start → ℕ → Type 0
AreStarts least position [] count = position ≡ count
AreStarts least position (start ∷ starts) count =
    (least ≤ start.block)
    × (start.position ≡ position)
    × (position < position_of_first starts count)
    × (start.block + (position_of_first starts count - position) ≤ 2 ^ 56)
    × AreStarts (start.block + (position_of_first starts count - position)) (position_of_first starts count) starts count

-- the first starts, so many, are at or below a bound, by their blocks or by their positions, and the others are above it
pub record IsSplit (key : Start → ℕ) (starts : List Start) (bound at : ℕ) : Type 0 where
  pub within : at ≤ length starts
  pub low : (k : ℕ) (d : Start) → k < at → key (slice_index_or starts k d) ≤ bound
  pub high : (k : ℕ) (d : Start) → at ≤ k → k < length starts → bound < key (slice_index_or starts k d)
