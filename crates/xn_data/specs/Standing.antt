-- Regions that stand in bytes, so that they can be read with no further test.
use Rattle.std.specs.Prelude.{ℕ, ◌+◌, ◌≤◌, ◌%◌, ◌≡◌, Bool, List, [], ◌∷◌, length}
use Rattle.xn_bytes.specs.Entries.{Entry, data_entry_length}
use Rattle.xn_bytes.specs.DataBlock.{AreRegions, most_regions, regions_at}

-- regions stand from a place on; `behind_free` says that a free one ends there, so that none begins
pub record StandFrom (behind_free : Bool) (at end : ℕ) (bytes : List ℕ) : Type 0 where
  pub small : end ≤ 4096
  pub within : end ≤ length bytes
  pub stand : AreRegions behind_free at end bytes (regions_at most_regions at end bytes)

-- The positions of entries rise from a place on by multiples of 8, each at or behind the end of the entry before, and the
-- last one ends at `end` or before.
abbrev pub ArePlaced : ℕ → ℕ → List Entry → Type 0
ArePlaced at end [] = at ≤ end
ArePlaced at end (entry ∷ entries) =
    (at ≤ entry.position) × (entry.position % 8 ≡ 0) × ArePlaced (entry.position + data_entry_length (length entry.name)) end entries
