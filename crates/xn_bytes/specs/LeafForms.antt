-- Directories in leaf and node form: data blocks by their numbers in the file, the leaf entries of all of them in one leaf
-- or in a tree of leaves, and the bests of the data blocks, from which one with room is chosen (`xfs_dir2_priv.h` and
-- `xfs_da_format.h`).
use Rattle.std.specs.Prelude.{◌≡◌, ◌⊎◌, ℕ, ◌+◌, ◌*◌, ◌/◌, ◌<◌, false, ◌==◌, if◌then◌else◌, List, [], ◌∷◌, ◌++◌, length, slice_index, map, flat_map, All, Any, IsPermutation, Option, Some, None, IsSome, unwrap_or}
use Rattle.std.specs.List.{AllAdjacentBelow}
use Rattle.xn_bytes.specs.Numbers.{number_at}
use Rattle.xn_bytes.specs.Superblock.{Geometry, sector_of_block}
use Rattle.xn_bytes.specs.Inode.{extents_format}
use Rattle.xn_bytes.specs.Extents.{Run, mapped}
use Rattle.xn_bytes.specs.Entries.{Entry}
use Rattle.xn_bytes.specs.DataBlock.{DataForm, LeafEntry, entries_among, gaps_among, greatest}
use Rattle.xn_bytes.specs.HashedTree.{DirLeafHolds, DirLeafCounts, LeafTailHolds, FreeForm, FreeHolds, dir_leaf_ends, single_leaf_magic, leaf_file_block, free_file_block, no_best, best_at}
use Rattle.xn_bytes.specs.Trees.{Tree, IsOwnBlock, TreeHolds, BreaksAt, magic_in, left_in, right_in}
use Rattle.xn_bytes.specs.DirectoryForms.{IsBlockForm, IsLeafForm, IsDataNumber, IsGreatestData, IsDataBlockOf, HasBlocksSize, HasDots, data_runs_of, leaf_of}

-- ---- data blocks

-- the data fork of a directory: the geometry, the inode, the fork's runs, and the bytes of each block of the device
pub record DirFork : Type 0 where
  pub geometry : Geometry
  pub owner : ℕ
  pub runs : List Run
  pub blocks : ℕ → List ℕ

-- a data block by its number in the file, and what it holds
pub record Placed : Type 0 where
  pub number : ℕ
  pub form : DataForm

-- it is mapped, and of the directory
abbrev pub IsPlaced : DirFork → Placed → Type 0
IsPlaced d placed = (block : ℕ) × (mapped d.runs placed.number ≡ Some block) × IsDataBlockOf d.geometry d.owner false block (d.blocks block) placed.form

-- all the data blocks that are mapped, in rising order
pub record AreData (d : DirFork) (data_blocks : List Placed) : Type 0 where
  pub each : All (IsPlaced d) data_blocks
  pub numbers : All (λ placed. IsDataNumber placed.number) data_blocks
  pub rising : AllAdjacentBelow (λ a b. a.number < b.number) data_blocks (length data_blocks)
  pub complete : (number : ℕ) → IsDataNumber number → IsSome (mapped d.runs number) → Any (λ placed. placed.number ≡ number) data_blocks

-- an entry of a data block, by its position in the directory's data
abbrev pub placed_in : ℕ → Entry → Entry
placed_in number entry = record entry { position = 4096 * number + entry.position }

-- the entries of a data block, by their positions in the directory's data
abbrev pub entries_placed : Placed → List Entry
entries_placed placed = map (placed_in placed.number) (entries_among placed.form.regions)

-- the first data block and all others
abbrev pub with_first : DataForm → List Placed → List Placed
with_first first others = record { number = 0; form = first } ∷ others

-- Rule 17 of a directory in leaf or node form: its data blocks, of which the first, with dot and dotdot in front, is there.
pub record HasData (d : DirFork) (first : DataForm) (others : List Placed) (front : List Entry) (dotdot : ℕ) : Type 0 where
  pub data_blocks : AreData d (with_first first others)
  pub dots : HasDots (entries_among first.regions) front dotdot

-- the entries of all data blocks, dot and dotdot among them
abbrev pub all_entries : DataForm → List Placed → List Entry
all_entries first others = entries_among first.regions ++ flat_map entries_placed others

-- ---- leaf entries

-- The single leaf of leaf form has no siblings, place for the bests that it says it has, and these leaf entries, the stale
-- ones left out.
pub record IsSingleLeaf (g : Geometry) (owner block : ℕ) (bytes : List ℕ) (live : List LeafEntry) : Type 0 where
  pub own : IsOwnBlock g owner block bytes
  pub is_magic : magic_in bytes ≡ single_leaf_magic
  pub no_left : left_in bytes ≡ 0
  pub no_right : right_in bytes ≡ 0
  pub holds : DirLeafHolds bytes live
  pub apart : (bests : List ℕ) × LeafTailHolds bytes bests

-- the same of a block of a directory
abbrev pub HasSingleLeaf : DirFork → ℕ → List LeafEntry → Type 0
HasSingleLeaf d block live = IsSingleLeaf d.geometry d.owner block (d.blocks block) live

-- the tree of node form, by what its leaves hold
abbrev pub tree_by : (List ℕ → List LeafEntry → Type 0) → DirFork → Tree LeafEntry
tree_by Holds d = record {
  HoldsLeaf = Holds;
  ends_of_leaf = dir_leaf_ends;
  fork = record { geometry = d.geometry; owner = d.owner; is_attribute = false; runs = d.runs; root = leaf_file_block };
  blocks = d.blocks;
}

-- its leaf entries are those that aren't stale
abbrev pub tree_in : DirFork → Tree LeafEntry
tree_in d = tree_by DirLeafHolds d

-- or all of them, stale ones counted
abbrev pub counted_tree_in : DirFork → Tree LeafEntry
counted_tree_in d = tree_by DirLeafCounts d

-- Rule 18 of a directory in leaf or node form: these leaf entries stand in the single leaf, or in the leaves of the tree from
-- left to right.
abbrev pub HasLeaves : DirFork → List LeafEntry → Type 0
HasLeaves d live =
    (IsLeafForm d.runs × ((block : ℕ) × (mapped d.runs leaf_file_block ≡ Some block) × HasSingleLeaf d block live))
    ⊎ (¬ IsLeafForm d.runs × TreeHolds (tree_in d) live)

-- the single leaf is none, or the tree is none; and which block fails first
abbrev pub BreaksLeaves : DirFork → ℕ → Type 0
BreaksLeaves d block =
    (IsLeafForm d.runs × (mapped d.runs leaf_file_block ≡ Some block) × ((live : List LeafEntry) → ¬ HasSingleLeaf d block live))
    ⊎ (¬ IsLeafForm d.runs × BreaksAt (tree_in d) block)

-- Rule 19: the leaf entries are those of the entries, each as often.
abbrev pub AreLeavesOf : List LeafEntry → List Entry → Type 0
AreLeavesOf live entries = IsPermutation (map leaf_of entries) live

-- ---- bests

-- the best of a data block: the length of its greatest free region
abbrev pub best_of : Placed → ℕ
best_of placed = greatest (gaps_among placed.form.regions)

-- the best that is to be noted of a number: none where it has no data block
abbrev pub best_for : ℕ → List Placed → Option ℕ
best_for number [] = None
best_for number (placed ∷ others) = if placed.number == number then Some (best_of placed) else best_for number others

-- behind the single leaf stand the bests of all numbers from 0 to the greatest
pub record HasLeafBests (d : DirFork) (data_blocks : List Placed) (block : ℕ) : Type 0 where
  pub bests : List ℕ
  pub tail : LeafTailHolds (d.blocks block) bests
  pub last : ℕ
  pub is_last : IsGreatestData d.runs last
  pub count : length bests ≡ last + 1
  pub each : (number : ℕ) → number < length bests → slice_index bests number ≡ unwrap_or (best_for number data_blocks) no_best

-- a free-index block in its place, with the bests of its 2,016 numbers
pub record IsFreeIndex (d : DirFork) (data_blocks : List Placed) (index block : ℕ) (form : FreeForm) : Type 0 where
  pub holds : FreeHolds (d.blocks block) form
  pub place : form.place ≡ sector_of_block d.geometry block
  pub uuid : form.uuid ≡ d.geometry.meta_uuid
  pub owner : form.owner ≡ d.owner
  pub number : form.index ≡ index
  pub each : (slot : ℕ) → slot < 2016 → best_at form.bests slot ≡ best_for (2016 * index + slot) data_blocks

-- every free-index block that is mapped is one, and that of each data block is mapped
pub record HasFreeIndexes (d : DirFork) (data_blocks : List Placed) : Type 0 where
  pub each : (index block : ℕ) → mapped d.runs (free_file_block + index) ≡ Some block → (form : FreeForm) × IsFreeIndex d data_blocks index block form
  pub all : All (λ placed. IsSome (mapped d.runs (free_file_block + placed.number / 2016))) data_blocks

-- Rule 20 of a directory in leaf or node form.
abbrev pub HasBests : DirFork → List Placed → Type 0
HasBests d data_blocks =
    (IsLeafForm d.runs × ((block : ℕ) × (mapped d.runs leaf_file_block ≡ Some block) × HasLeafBests d data_blocks block))
    ⊎ (¬ IsLeafForm d.runs × HasFreeIndexes d data_blocks)

-- ---- the directory

-- what the blocks of a directory in leaf or node form hold
pub record HoldsHashed (d : DirFork) (entries : List Entry) (dotdot : ℕ) : Type 0 where
  pub first : DataForm
  pub others : List Placed
  pub front : List Entry
  pub data_blocks : HasData d first others front dotdot
  pub entries_are : entries ≡ front ++ flat_map entries_placed others
  pub live : List LeafEntry
  pub leaves : HasLeaves d live
  pub index : AreLeavesOf live (all_entries first others)
  pub bests : HasBests d (with_first first others)

-- the data fork of an inode
abbrev pub data_fork_in : Geometry → ℕ → List ℕ → (ℕ → List ℕ) → DirFork
data_fork_in g dir inode blocks = record { geometry = g; owner = dir; runs = data_runs_of inode; blocks = blocks }

-- in leaf or node form: a list of extents that maps more than file block 0
pub record IsInBlocks (inode : List ℕ) : Type 0 where
  pub is_extents : number_at 1 5 inode ≡ extents_format
  pub not_alone : (block : ℕ) → ¬ IsBlockForm (data_runs_of inode) block

pub record HoldsBlocks (g : Geometry) (dir : ℕ) (inode : List ℕ) (blocks : ℕ → List ℕ) (entries : List Entry) (dotdot : ℕ) : Type 0 where
  pub form : IsInBlocks inode
  pub size : HasBlocksSize inode
  pub holds : HoldsHashed (data_fork_in g dir inode blocks) entries dotdot
