-- The attributes of an inode of an image: one relation for its forms, and which rule of the checker they break.
use Rattle.std.specs.Prelude.{◌≡◌, ◌≢◌, ◌⊎◌, ℕ, true, List, []}
use Rattle.xn_bytes.specs.Numbers.{number_at}
use Rattle.xn_bytes.specs.Superblock.{Geometry}
use Rattle.xn_bytes.specs.Blocks.{block_of}
use Rattle.xn_bytes.specs.Inode.{inode_of, attr_fork_of, local_format, extents_format, HasCore, HasBothForks}
use Rattle.xn_bytes.specs.Extents.{Run, runs_in}
use Rattle.xn_bytes.specs.DirectoryForms.{HasForkLists, attr_extents_of}
use Rattle.xn_bytes.specs.DirectoryRules.{OrBreaks}
use Rattle.xn_bytes.specs.declared.attribute.Attribute.{Attribute}
use Rattle.xn_bytes.specs.ShortAttributes.{ShortAttributesHold}
use Rattle.xn_bytes.specs.AttributeLeaves.{AttrLeafHolds, attr_leaf_ends}
use Rattle.xn_bytes.specs.Trees.{Tree, TreeHolds, BreaksAt, FailsFor}

-- the runs of the attribute fork
abbrev pub attr_runs_of : List ℕ → List Run
attr_runs_of inode = runs_in (attr_extents_of inode) (attr_fork_of inode)

-- the tree of an attribute fork, whose root is file block 0
abbrev pub attr_tree : Geometry → ℕ → List ℕ → (ℕ → List ℕ) → Tree Attribute
attr_tree g ino inode blocks = record {
  HoldsLeaf = AttrLeafHolds;
  ends_of_leaf = attr_leaf_ends;
  fork = record { geometry = g; owner = ino; is_attribute = true; runs = attr_runs_of inode; root = 0 };
  blocks = blocks;
}

-- ---- the forms

-- there is no attribute fork
abbrev pub HasNoAttrFork : List ℕ → Type 0
HasNoAttrFork inode = number_at 1 82 inode ≡ 0

-- the attributes stand in the inode
pub record IsShortFork (inode : List ℕ) : Type 0 where
  pub there : number_at 1 82 inode ≢ 0
  pub is_local : number_at 1 83 inode ≡ local_format

-- extents format without extents: the fork is empty, whatever its bytes
pub record IsEmptyFork (inode : List ℕ) : Type 0 where
  pub there : number_at 1 82 inode ≢ 0
  pub is_extents : number_at 1 83 inode ≡ extents_format
  pub none : attr_extents_of inode ≡ 0

-- the attributes stand in blocks: in one leaf, or in a tree
pub record IsTreeFork (inode : List ℕ) : Type 0 where
  pub there : number_at 1 82 inode ≢ 0
  pub is_extents : number_at 1 83 inode ≡ extents_format
  pub some : attr_extents_of inode ≢ 0

-- The inode with these bytes and blocks has the attributes, in the order in which they stand.
abbrev pub HasAttributes : Geometry → ℕ → List ℕ → (ℕ → List ℕ) → List Attribute → Type 0
HasAttributes g ino inode blocks attributes =
    ((HasNoAttrFork inode ⊎ IsEmptyFork inode) × (attributes ≡ []))
    ⊎ (IsShortFork inode × ShortAttributesHold (attr_fork_of inode) attributes)
    ⊎ (IsTreeFork inode × TreeHolds (attr_tree g ino inode blocks) attributes)

-- an inode of an image has the attributes
abbrev pub AttrHolds : Geometry → List ℕ → ℕ → List Attribute → Type 0
AttrHolds g image ino attributes = HasAttributes g ino (inode_of g image ino) (block_of g image) attributes

-- ---- the rules

-- Rules 10, 11 and 13 hold of the inode.
pub record HasOwnInode (g : Geometry) (inode : List ℕ) (ino : ℕ) : Type 0 where
  pub core : HasCore inode ino g.meta_uuid
  pub forks : HasBothForks g inode ino
  pub lists : HasForkLists g inode

-- one of them fails, the least; or all hold and the rest goes on
abbrev pub OrBreaksOwn : Geometry → ℕ → List ℕ → ℕ → ℕ → Type 0 → Type 0
OrBreaksOwn g ino inode rule block Rest =
    OrBreaks rule block 10 0 (HasCore inode ino g.meta_uuid)
    (OrBreaks rule block 11 0 (HasBothForks g inode ino)
    (OrBreaks rule block 13 0 (HasForkLists g inode) Rest))

-- rule 24: the short form is none
abbrev pub BreaksShortFork : List ℕ → ℕ → ℕ → Type 0
BreaksShortFork inode rule block =
    (rule ≡ 24) × (block ≡ 0) × IsShortFork inode × ((attributes : List Attribute) → ¬ ShortAttributesHold (attr_fork_of inode) attributes)

-- rule 25: the tree is none, and this is the first block that fails
abbrev pub BreaksTreeFork : Geometry → ℕ → List ℕ → (ℕ → List ℕ) → ℕ → ℕ → Type 0
BreaksTreeFork g ino inode blocks rule block = (rule ≡ 25) × IsTreeFork inode × BreaksAt (attr_tree g ino inode blocks) block

-- the least of the rules 10, 11, 13, 24 and 25 that an inode breaks, and the block that it names
abbrev pub AttrBreaks : Geometry → List ℕ → ℕ → ℕ → ℕ → Type 0
AttrBreaks g image ino rule block =
    OrBreaksOwn g ino (inode_of g image ino) rule block
    (BreaksShortFork (inode_of g image ino) rule block ⊎ BreaksTreeFork g ino (inode_of g image ino) (block_of g image) rule block)

-- The rule that a search for one attribute names: in a tree, where it doesn't look at everything, the block is the first that
-- fails on the way of a hash.
abbrev pub AttrFails : Geometry → List ℕ → ℕ → ℕ → ℕ → ℕ → Type 0
AttrFails g image ino hash rule block =
    OrBreaksOwn g ino (inode_of g image ino) rule block
    (BreaksShortFork (inode_of g image ino) rule block
    ⊎ ((rule ≡ 25) × IsTreeFork (inode_of g image ino) × FailsFor (attr_tree g ino (inode_of g image ino) (block_of g image)) hash block))
