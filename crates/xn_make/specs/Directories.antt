-- A directory's block in block form that was made: what it holds, and which entries can be put into one.
use Rattle.std.specs.Prelude.{◌≡◌, ℕ, ◌+◌, ◌-◌, ◌*◌, ◌^◌, ◌<◌, ◌≤◌, List, [], ◌∷◌, length, map, IsPermutation}
use Rattle.xn_bytes.specs.declared.kind.Kind.TheVariants.{Dir}
use Rattle.xn_bytes.specs.Entries.{Entry, data_entry_length}
use Rattle.xn_bytes.specs.Checksum.{HasChecksum}
use Rattle.xn_bytes.specs.DataBlock.{Gap, LeafEntry}
use Rattle.xn_make.specs.SpelledBlocks.{entries_bytes, header_bytes, behind_header, IsBlockSpelled}
use Rattle.xn_bytes.specs.DirectoryForms.{leaf_of, AreSorted}
use Rattle.xn_make.specs.declared.blocks.Named.{Named}

-- what is named, as the entry at a position
abbrev pub entry_at : ℕ → Named → Entry
entry_at position named = record { name = named.name.now; ino = named.ino; kind = named.kind; position = position }

-- the entries side by side from a position on
unfoldable pub entries_from : ℕ → List Named → List Entry
entries_from position [] = []
entries_from position (named ∷ rest) = entry_at position named ∷ entries_from (position + data_entry_length (length named.name.now)) rest

-- how many bytes they take
unfoldable pub total_length : List Named → ℕ
total_length [] = 0
total_length (named ∷ rest) = data_entry_length (length named.name.now) + total_length rest

-- a name that has a length in one byte, and an inode number that isn't taken for a free region's tag
pub record CanStand (named : Named) : Type 0 where
  pub short : length named.name.now ≤ 255
  pub number : named.ino < 2 ^ 56

-- There is room for them, behind the header, `.` and `..`, and in front of a free region, the leaf entries and the tail.
abbrev pub Fit : List Named → Type 0
Fit named = 96 + total_length named + 8 + 8 * (length named + 2) + 8 ≤ 4096

-- `.` and `..`, and behind them the entries
abbrev pub all_entries : ℕ → ℕ → List Named → List Entry
all_entries number parent named =
    record { name = 46 ∷ []; ino = number; kind = Dir; position = 64 }
    ∷ (record { name = 46 ∷ 46 ∷ []; ino = parent; kind = Dir; position = 80 } ∷ entries_from 96 named)

-- the free region behind them
abbrev pub gap_behind : List Named → Gap
gap_behind named = record { place = 96 + total_length named; size = 4088 - 8 * (length named + 2) - (96 + total_length named) }

-- The block is that of a directory with this number and these entries side by side, `.` and `..` among them, one free
-- region behind them, and a leaf entry for each, by hash. All its bytes are spelled out.
pub record IsDirectoryBlock (bytes : List ℕ) (sector number : ℕ) (entries : List Entry) (gap : Gap) : Type 0 where
  pub whole : length bytes ≡ 4096
  pub checksum : HasChecksum bytes 4
  pub leaves : List LeafEntry
  pub sorted : AreSorted leaves
  pub index : IsPermutation (map leaf_of entries) leaves
  pub spelled : IsBlockSpelled bytes (header_bytes sector number gap) (behind_header (entries_bytes entries) gap leaves)
