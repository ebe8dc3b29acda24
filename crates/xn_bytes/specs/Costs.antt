-- How many pieces, an inode or a block each, a directory is read with.
use Rattle.std.specs.Prelude.{◌≡◌, ◌⊎◌, ℕ, ◌+◌, ◌*◌, ◌==◌, if◌then◌else◌, List, Some, sum_by, count_by}
use Rattle.xn_bytes.specs.Numbers.{number_at}
use Rattle.xn_bytes.specs.Superblock.{Geometry}
use Rattle.xn_bytes.specs.Blocks.{block_of}
use Rattle.xn_bytes.specs.Inode.{inode_of, local_format, extents_format}
use Rattle.xn_bytes.specs.Extents.{Run, mapped}
use Rattle.xn_bytes.specs.DataBlock.{LeafEntry}
use Rattle.xn_bytes.specs.HashedTree.{dir_leaves, leaf_file_block}
use Rattle.xn_bytes.specs.Trees.{Held, IsTree, entries_in, levels_of_tree, leaves_to}
use Rattle.xn_bytes.specs.DirectoryForms.{IsBlockForm, IsLeafForm, data_runs_of}
use Rattle.xn_bytes.specs.LeafForms.{DirFork, HasSingleLeaf, IsInBlocks, counted_tree_in, data_fork_in, tree_in}

-- how many file blocks are mapped
abbrev pub mapped_count : List Run → ℕ
mapped_count runs = sum_by (λ run. run.count) runs

-- A list reads the inode, and in the other forms than the short one each block that is mapped.
abbrev pub list_cost : List ℕ → ℕ
list_cost inode = if number_at 1 5 inode == local_format then 1 else 1 + mapped_count (data_runs_of inode)

-- how many leaf entries have a hash
abbrev pub count_of_hash : ℕ → List LeafEntry → ℕ
count_of_hash hash leaves = count_by (λ leaf. leaf.hash == hash) leaves

-- In leaf form a look-up reads the leaf, and in node form the path from the root, and one more leaf for each that ends with
-- the hash; then a data block for each leaf entry with the hash that isn't stale.
abbrev pub IsHashCost : DirFork → ℕ → ℕ → Type 0
IsHashCost d hash cost =
    (IsLeafForm d.runs × ((block : ℕ) × (live : List LeafEntry) × (mapped d.runs leaf_file_block ≡ Some block) × HasSingleLeaf d block live
    × (cost ≡ 1 + count_of_hash hash live)))
    ⊎ (¬ IsLeafForm d.runs × ((helds : List (Held LeafEntry)) × IsTree (tree_in d) helds
    × (cost ≡ levels_of_tree (tree_in d) + leaves_to hash helds + count_of_hash hash (entries_in helds))))

-- A look-up of a name with this hash reads the inode; in block form the block, and in leaf and node form what the hash
-- asks for. Without a right leaf or tree there is no such number.
abbrev pub IsLookUpCost : Geometry → ℕ → List ℕ → (ℕ → List ℕ) → ℕ → ℕ → Type 0
IsLookUpCost g dir inode blocks hash cost =
    ((number_at 1 5 inode ≡ local_format) × (cost ≡ 1))
    ⊎ ((number_at 1 5 inode ≡ extents_format) × ((block : ℕ) × IsBlockForm (data_runs_of inode) block) × (cost ≡ 2))
    ⊎ (IsInBlocks inode × ((cost_of_hash : ℕ) × IsHashCost (data_fork_in g dir inode blocks) hash cost_of_hash × (cost ≡ 1 + cost_of_hash)))

-- How far the leaves of a hash reach: how many blocks a path to a leaf has, 1 in leaf form; and how many leaf entries have the
-- hash, stale ones counted.
abbrev pub IsHashReach : DirFork → ℕ → ℕ → ℕ → Type 0
IsHashReach d hash levels count =
    (IsLeafForm d.runs × (levels ≡ 1) × ((block : ℕ) × (live : List LeafEntry) × (mapped d.runs leaf_file_block ≡ Some block) × HasSingleLeaf d block live
    × (count ≡ count_of_hash hash (dir_leaves (d.blocks block)))))
    ⊎ (¬ IsLeafForm d.runs × (levels ≡ levels_of_tree (tree_in d)) × ((helds : List (Held LeafEntry)) × IsTree (counted_tree_in d) helds
    × (count ≡ count_of_hash hash (entries_in helds))))

-- What a look-up by hash reads at most, whatever the blocks hold: a path of 5 blocks, each mapped block once more as a leaf,
-- and a data block for each of the 504 leaf entries that each of these leaves can have.
abbrev pub hash_most : List Run → ℕ
hash_most runs = 5 + mapped_count runs + 504 * (1 + mapped_count runs)

-- the same of a look-up in a directory
abbrev pub look_up_most : List ℕ → ℕ
look_up_most inode = if number_at 1 5 inode == local_format then 1 else 1 + hash_most (data_runs_of inode)

-- the reach of a hash in a directory in leaf or node form, over an image
abbrev pub HasHashReach : Geometry → List ℕ → ℕ → ℕ → ℕ → ℕ → Type 0
HasHashReach g image dir hash levels count =
    IsInBlocks (inode_of g image dir) × IsHashReach (data_fork_in g dir (inode_of g image dir) (block_of g image)) hash levels count

-- what a look-up costs over an image
abbrev pub HasLookUpCost : Geometry → List ℕ → ℕ → ℕ → ℕ → Type 0
HasLookUpCost g image dir hash cost = IsLookUpCost g dir (inode_of g image dir) (block_of g image) hash cost
