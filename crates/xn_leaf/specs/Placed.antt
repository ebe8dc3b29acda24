-- Leaf entries in their places, and what a leaf that is written anew keeps.
use Rattle.std.specs.Prelude.{◌≡◌, ◌≢◌, ℕ, ◌+◌, ◌*◌, ◌≤◌, List, length, count_by, slice_range}
use Rattle.xn_bytes.specs.Numbers.{number_at}
use Rattle.xn_bytes.specs.DataBlock.{LeafEntry, leaf_at, leaves_at}
use Rattle.xn_bytes.specs.HashedTree.{DirLeafHolds, dir_leaf_ends, dir_leaves, is_stale, leaf_magic, single_leaf_magic}
use Rattle.xn_datree.specs.Leaves.{KeepsHeader, ends_of_list}

-- the counts of a leaf
pub record HasCounts (bytes : List ℕ) : Type 0 where
  pub few : number_at 2 56 bytes ≤ 504
  pub stale : number_at 2 58 bytes ≡ count_by is_stale (dir_leaves bytes)

-- a leaf entry was put at the place of an index, and those before it and the header stay
pub record PutsLeaf (index : ℕ) (old new : List ℕ) (leaf : LeafEntry) : Type 0 where
  pub whole : length new ≡ length old
  pub there : leaf_at (64 + 8 * index) new ≡ leaf
  pub before : slice_range new 0 (64 + 8 * index) ≡ slice_range old 0 (64 + 8 * index)

-- leaf entries were put behind the header, which stays
pub record PutsLeaves (old new : List ℕ) (leaves : List LeafEntry) : Type 0 where
  pub whole : length new ≡ length old
  pub there : leaves_at (length leaves) 64 new ≡ leaves
  pub before : slice_range new 0 64 ≡ slice_range old 0 64

-- The magic number of a leaf under nodes was put, and how many entries there are, none of them stale. Siblings, place, uuid
-- and owner stay, and what stands behind the header.
pub record PutsCounts (entries : ℕ) (old new : List ℕ) : Type 0 where
  pub whole : length new ≡ length old
  pub magic : number_at 2 8 new ≡ leaf_magic
  pub count : number_at 2 56 new ≡ entries
  pub stale : number_at 2 58 new ≡ 0
  pub siblings : slice_range new 0 8 ≡ slice_range old 0 8
  pub place : slice_range new 16 56 ≡ slice_range old 16 56
  pub body : slice_range new 64 4096 ≡ slice_range old 64 4096

-- a block was made a leaf with these entries, as every leaf of a tree is filled
pub record IsFilled (old new : List ℕ) (leaves : List LeafEntry) : Type 0 where
  pub holds : DirLeafHolds new leaves
  pub ends : dir_leaf_ends new ≡ ends_of_list (λ leaf. leaf.hash) leaves
  pub tree : number_at 2 8 new ≢ single_leaf_magic
  pub header : KeepsHeader old new
