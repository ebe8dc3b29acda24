-- The bytes of a directory's block in block form, piece by piece.
use Rattle.std.specs.Prelude.{◌≡◌, ℕ, ◌+◌, ◌-◌, List, [], ◌∷◌, ◌++◌, length, replicate}
use Rattle.byteorder.specs.Endian.{big_bytes, little_bytes}
use Rattle.xn_bytes.specs.Numbers.{overlaid}
use Rattle.xn_bytes.specs.Kinds.{kind_number}
use Rattle.xn_bytes.specs.Entries.{Entry, data_entry_length}
use Rattle.xn_bytes.specs.DataBlock.{Gap, LeafEntry, block_form_magic}
use Rattle.xn_make.specs.Fixed.{small_uuid}

-- how many zeros stand between an entry's kind and its own place
abbrev pub padding_of : ℕ → ℕ
padding_of name_length = data_entry_length name_length - (12 + name_length)

-- an entry: inode, name's length, name, kind, padding, own place
abbrev pub entry_bytes : Entry → List ℕ
entry_bytes entry =
    big_bytes 8 entry.ino ++ (length entry.name ∷ (entry.name ++ (kind_number entry.kind ∷ (replicate (padding_of (length entry.name)) 0 ++ big_bytes 2 entry.position))))

-- entries side by side
unfoldable pub entries_bytes : List Entry → List ℕ
entries_bytes [] = []
entries_bytes (entry ∷ entries) = entry_bytes entry ++ entries_bytes entries

-- a free region: its tag, its length, zeros, own place
abbrev pub gap_bytes : Gap → List ℕ
gap_bytes gap = (0xff ∷ 0xff ∷ []) ++ (big_bytes 2 gap.size ++ (replicate (gap.size - 6) 0 ++ big_bytes 2 gap.place))

-- leaf entries side by side
unfoldable pub leaves_bytes : List LeafEntry → List ℕ
leaves_bytes [] = []
leaves_bytes (leaf ∷ leaves) = big_bytes 4 leaf.hash ++ (big_bytes 4 leaf.address ++ leaves_bytes leaves)

-- behind the header: entries, one free region, leaf entries, their count, and no stale ones
abbrev pub behind_header : List ℕ → Gap → List LeafEntry → List ℕ
behind_header entries gap leaves =
    entries ++ (gap_bytes gap ++ (leaves_bytes leaves ++ (big_bytes 4 (length leaves) ++ big_bytes 4 0)))

-- the header, without its checksum: magic, place, uuid, owner, and the first pair
abbrev pub header_bytes : ℕ → ℕ → Gap → List ℕ
header_bytes sector owner gap =
    overlaid (overlaid (overlaid (overlaid (overlaid (overlaid (replicate 64 0)
    0 (big_bytes 4 block_form_magic)) 8 (big_bytes 8 sector)) 24 small_uuid) 40 (big_bytes 8 owner))
    48 (big_bytes 2 gap.place)) 50 (big_bytes 2 gap.size)

-- a block with that header and its checksum
abbrev pub IsBlockSpelled : List ℕ → List ℕ → List ℕ → Type 0
IsBlockSpelled bytes header behind = (checksum : ℕ) × (bytes ≡ overlaid (header ++ behind) 4 (little_bytes 4 checksum))
