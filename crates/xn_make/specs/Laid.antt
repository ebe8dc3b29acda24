-- What the program keeps of a block while it lays it out, as the format's own.
use Rattle.std.specs.Prelude.{◌≡◌, ℕ, ◌+◌, ◌-◌, ◌*◌, ◌/◌, List, ◌++◌, length, map}
use Rattle.xn_bytes.specs.DirectoryForms.{leaf_of}
use Rattle.xn_make.specs.declared.blocks.Named.{Named}
use Rattle.xn_make.specs.declared.layout.Layout.{Layout}
use Rattle.xn_make.specs.Directories.{entries_from}
use Rattle.xn_make.specs.SpelledBlocks.{entries_bytes, header_bytes, behind_header, IsBlockSpelled}
use Rattle.xn_bytes.specs.Checksum.{HasChecksum}
use Rattle.xn_bytes.specs.Hashes.{name_hash_of}
use Rattle.xn_bytes.specs.DataBlock as block
use Rattle.xn_make.specs.declared.layout.Leaf.{Leaf}
use Rattle.xn_make.specs.declared.layout.Gap.{Gap}

abbrev pub leaf_entry : Leaf → block.LeafEntry
leaf_entry leaf = record { hash = leaf.hash; address = leaf.address }

abbrev pub gap_of : Gap → block.Gap
gap_of gap = record { place = gap.place; size = gap.size }

-- the leaf entry of a name whose entry stands at a position
abbrev pub leaf_at : ℕ → List ℕ → Leaf
leaf_at position name = record { hash = name_hash_of name; address = position / 8 }

-- entries have been put behind those of a layout, and their leaf entries behind its leaf entries
pub record HasAdded (before after : Layout) (named : List Named) : Type 0 where
  pub area : after.area.items ≡ before.area.items ++ entries_bytes (entries_from (64 + length before.area.items) named)
  pub leaves : map leaf_entry after.leaves.items ≡ map leaf_entry before.leaves.items ++ map leaf_of (entries_from (64 + length before.area.items) named)

-- the free region behind the entries of a layout
abbrev pub gap_in : Layout → block.Gap
gap_in layout = record { place = 64 + length layout.area.items; size = 4088 - 8 * length layout.leaves.items - (64 + length layout.area.items) }

-- the block of a layout
pub record IsClosed (bytes : List ℕ) (layout : Layout) (sector owner : ℕ) : Type 0 where
  pub checksum : HasChecksum bytes 4
  pub spelled : IsBlockSpelled bytes (header_bytes sector owner (gap_in layout)) (behind_header layout.area.items (gap_in layout) (map leaf_entry layout.leaves.items))
