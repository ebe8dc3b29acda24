-- What a directory of an image holds: one relation for its four forms, short, block, leaf and node. And what stands in it,
-- whatever the hashes say by which its entries are found.
use Rattle.std.specs.Prelude.{◌≡◌, ◌⊎◌, ℕ, List, Contains}
use Rattle.xn_bytes.specs.Numbers.{number_at}
use Rattle.xn_bytes.specs.Superblock.{Geometry}
use Rattle.xn_bytes.specs.Blocks.{block_of}
use Rattle.xn_bytes.specs.Inode.{inode_of, extents_format}
use Rattle.xn_bytes.specs.Entries.{Entry}
use Rattle.xn_bytes.specs.DataBlock.{DataForm, DataHolds, entries_among}
use Rattle.xn_bytes.specs.DirectoryForms.{AreSorted, HoldsShort, HoldsBlock, HoldsFirst, HasBlocksSize, IsBlockForm, IsDataNumber, IsIndexOf, HasDots, data_runs_of}
use Rattle.xn_bytes.specs.LeafForms.{Placed, IsPlaced, HoldsBlocks, IsInBlocks, data_fork_in, entries_placed}

-- The directory with these inode bytes and blocks holds the entries, without dot and dotdot, in rising position, and this
-- dotdot.
abbrev pub Holds : Geometry → ℕ → List ℕ → (ℕ → List ℕ) → List Entry → ℕ → Type 0
Holds g dir inode blocks entries dotdot =
    HoldsShort inode entries dotdot
    ⊎ (HoldsBlock g dir inode blocks entries dotdot ⊎ HoldsBlocks g dir inode blocks entries dotdot)

-- a directory of an image holds entries and a dotdot
abbrev pub DirHolds : Geometry → List ℕ → ℕ → List Entry → ℕ → Type 0
DirHolds g image dir entries dotdot = Holds g dir (inode_of g image dir) (block_of g image) entries dotdot

-- ---- what stands in a directory, whatever its leaf entries say

-- The entries that stand in the short form, or in the one block of block form, behind dot and dotdot.
abbrev pub StandIn : Geometry → ℕ → List ℕ → (ℕ → List ℕ) → List Entry → ℕ → Type 0
StandIn g dir inode blocks entries dotdot =
    HoldsShort inode entries dotdot
    ⊎ ((block : ℕ) × (form : DataForm) × (number_at 1 5 inode ≡ extents_format) × IsBlockForm (data_runs_of inode) block
    × HasBlocksSize inode × HoldsFirst g dir block (blocks block) form entries dotdot)

-- In block form the leaf entries are sorted, and they are those of the entries.
abbrev pub HasIndex : List ℕ → (ℕ → List ℕ) → Type 0
HasIndex inode blocks =
    (block : ℕ) (form : DataForm) → number_at 1 5 inode ≡ extents_format → IsBlockForm (data_runs_of inode) block → DataHolds (blocks block) form
    → AreSorted form.leaves × IsIndexOf form.leaves (entries_among form.regions)

-- the same over an image
abbrev pub EntriesStand : Geometry → List ℕ → ℕ → List Entry → ℕ → Type 0
EntriesStand g image dir entries dotdot = StandIn g dir (inode_of g image dir) (block_of g image) entries dotdot

abbrev pub IsIndexed : Geometry → List ℕ → ℕ → Type 0
IsIndexed g image dir = HasIndex (inode_of g image dir) (block_of g image)

-- In leaf or node form: an entry stands in one of the data blocks, by its position in the directory's data.
pub record StandsInBlocks (g : Geometry) (dir : ℕ) (inode : List ℕ) (blocks : ℕ → List ℕ) (entry : Entry) : Type 0 where
  pub form : IsInBlocks inode
  pub size : HasBlocksSize inode
  pub placed : Placed
  pub is_data : IsDataNumber placed.number
  pub is_placed : IsPlaced (data_fork_in g dir inode blocks) placed
  pub there : Contains (entries_placed placed) entry

-- In leaf or node form: the first data block is right, with dot and this dotdot in front.
pub record HasDotdotInBlocks (g : Geometry) (dir : ℕ) (inode : List ℕ) (blocks : ℕ → List ℕ) (dotdot : ℕ) : Type 0 where
  pub form : IsInBlocks inode
  pub size : HasBlocksSize inode
  pub first : DataForm
  pub is_placed : IsPlaced (data_fork_in g dir inode blocks) (record { number = 0; form = first })
  pub front : List Entry
  pub dots : HasDots (entries_among first.regions) front dotdot

-- the dotdot of a directory, whatever its leaf entries say
abbrev pub HasDotdot : Geometry → List ℕ → ℕ → ℕ → Type 0
HasDotdot g image dir dotdot =
    ((entries : List Entry) × EntriesStand g image dir entries dotdot) ⊎ HasDotdotInBlocks g dir (inode_of g image dir) (block_of g image) dotdot
