-- The fork that a tree is read through, as the definition of trees sees it, and what its faults say.
use Rattle.std.specs.Prelude.{◌≡◌, ◌≢◌, ◌⊎◌, ℕ, ◌+◌, ◌≤◌, List, length, All, AllPairs, Option, IfSome, IsSome, IsTrue}
use Rattle.xn_bytes.specs.Causes.{Rose}
use Rattle.xn_bytes.specs.Superblock.{Geometry}
use Rattle.xn_bytes.specs.Blocks.{block_of}
use Rattle.xn_bytes.specs.Trees.{TreeFork, Tree, block_number, is_tree_number, tree_rule}
use Rattle.xn_bytes.specs.Extents.{mapped}
use Rattle.xn_inode.specs.declared.store.Store.{Ghosts}
use Rattle.xn_inode.specs.declared.fork_fault.ForkFault.{ForkFault}
use Rattle.xn_inode.specs.declared.fork_fault.ForkFault.TheVariants.{Read, Memory, Broken}
use Rattle.xn_datree.specs.declared.fork.Fork.{Fork}

abbrev pub tree_fork : Geometry → Fork → TreeFork
tree_fork g fork = record { geometry = g; owner = fork.owner; is_attribute = fork.attribute; runs = fork.extents; root = fork.root }

-- the tree of a fork of an image, by what leaves hold
abbrev pub tree_of : {E : Type 0} → (List ℕ → List E → Type 0) → (List ℕ → Option (ℕ × ℕ)) → Geometry → Fork → List ℕ → Tree E
tree_of HoldsLeaf ends_of_leaf g fork image = record {
  HoldsLeaf = HoldsLeaf;
  ends_of_leaf = ends_of_leaf;
  fork = tree_fork g fork;
  blocks = block_of g image;
}

-- A tree was not read: reading failed, whose count rose; memory ran out; or the tree is broken as these blocks say over the
-- image, by its rule.
abbrev pub IsTreeFault : {S : Type 0} → Ghosts S → (List ℕ → ℕ → Type 0) → Fork → S → S → ForkFault → Type 0
IsTreeFault store Breaks fork old new Read = Rose (store.faults old) (store.faults new)
IsTreeFault store Breaks fork old new Memory = Unit {0}
IsTreeFault store Breaks fork old new (Broken rule block) = (rule ≡ tree_rule fork.attribute) × IfSome (store.image old) (λ x. Breaks x block)

-- the same of one block, which the fault names
abbrev pub IsVisitFault : {S : Type 0} → Ghosts S → (List ℕ → Type 0) → Fork → ℕ → S → S → ForkFault → Type 0
IsVisitFault store Fails fork file_block old new = IsTreeFault store (λ x block. (block ≡ block_number (tree_fork (store.shape old) fork) file_block) × Fails x) fork old new

-- at most one fetch for each of these file blocks, which are mapped, and the root's or such as the tree can have
pub record FetchesBlocks (fork : Fork) (before now : ℕ) : Type 0 where
  pub read : List ℕ
  pub once : AllPairs (λ a b. a ≢ b) read
  pub there : All (λ file_block. IsSome (mapped fork.extents file_block)) read
  pub of_tree : All (λ file_block. (file_block ≡ fork.root) ⊎ IsTrue (is_tree_number fork.attribute file_block)) read
  pub fetches : now ≤ before + length read
