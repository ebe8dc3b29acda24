-- How many pieces an inode's attributes are read with; whether one more has room in the attribute fork, and by how much the
-- fork grows where it has none.
use Rattle.std.specs.Prelude.{◌≡◌, ◌⊎◌, ℕ, ◌+◌, ◌/◌, ◌≤◌, ◌==◌, if◌then◌else◌, List, length, sum_by}
use Rattle.xn_bytes.specs.declared.attribute.Attribute.{Attribute}
use Rattle.xn_bytes.specs.declared.attribute.Value.{Value}
use Rattle.xn_bytes.specs.declared.attribute.Value.TheVariants.{Here, Remote}
use Rattle.xn_bytes.specs.Superblock.{Geometry}
use Rattle.xn_bytes.specs.Inode.{attr_fork_of}
use Rattle.xn_bytes.specs.DirectoryForms.{attr_extents_of}
use Rattle.xn_bytes.specs.Attributes.{attribute_hash}
use Rattle.xn_bytes.specs.AttributeLeaves.{AttrLeafHolds, attribute_size, attr_leaf_capacity}
use Rattle.xn_bytes.specs.AttributeForks.{IsShortFork, IsEmptyFork, IsTreeFork, attr_tree}
use Rattle.xn_bytes.specs.Trees.{Held, IsTree, IsLeafFor, bytes_at, levels_of_tree}

-- ---- how many pieces are read

-- The inode; and in a tree each block that a path from the root reaches, once. The blocks of remote values are not read.
abbrev pub IsAttrCost : Geometry → ℕ → List ℕ → (ℕ → List ℕ) → ℕ → Type 0
IsAttrCost g ino inode blocks cost =
    (¬ IsTreeFork inode × (cost ≡ 1))
    ⊎ (IsTreeFork inode × ((helds : List (Held Attribute)) × IsTree (attr_tree g ino inode blocks) helds × (cost ≡ 1 + length helds)))

-- ---- room

-- how many bytes a value takes in short form; a remote one can't stand there
abbrev pub bytes_of_value : Value → ℕ
bytes_of_value (Here value) = length value
bytes_of_value (Remote block size) = 0

-- the size of the short form of attributes
abbrev pub short_size_of : List Attribute → ℕ
short_size_of attributes = 4 + sum_by (λ attribute. 3 + length attribute.name + bytes_of_value attribute.value) attributes

-- In short form the longer form fits the fork, and the value has at most 255 bytes. A fork in extents format without extents is
-- a short form without attributes.
pub record HasShortRoom (inode : List ℕ) (attributes : List Attribute) (name value : List ℕ) : Type 0 where
  pub form : IsShortFork inode ⊎ IsEmptyFork inode
  pub fits : short_size_of attributes + 3 + length name + length value ≤ length (attr_fork_of inode)
  pub short : length value ≤ 255

-- In a tree the leaf to which the descent to its hash leads has so many bytes left.
pub record HasLeafRoom (g : Geometry) (ino : ℕ) (inode : List ℕ) (blocks : ℕ → List ℕ) (attribute : Attribute) : Type 0 where
  pub form : IsTreeFork inode
  pub leaf : ℕ
  pub is_leaf : IsLeafFor (attr_tree g ino inode blocks) (attribute_hash attribute) leaf
  pub entries : List Attribute
  pub holds : AttrLeafHolds (bytes_at (attr_tree g ino inode blocks) leaf) entries
  pub fits : sum_by attribute_size entries + attribute_size attribute ≤ attr_leaf_capacity

-- An attribute with its value beside its name has room among the attributes of an inode. Without an attribute fork none has.
abbrev pub HasAttrRoom : Geometry → ℕ → List ℕ → (ℕ → List ℕ) → List Attribute → ℕ → List ℕ → List ℕ → Type 0
HasAttrRoom g ino inode blocks attributes flags name value =
    HasShortRoom inode attributes name value
    ⊎ HasLeafRoom g ino inode blocks (record { flags = flags; name = name; value = Here value })

-- ---- growth

-- how many blocks the growth of a tree of so many levels asks to be free
abbrev pub tree_growth : ℕ → ℕ
tree_growth levels = if levels == 1 then 2 else levels + 2

-- How an attribute fork grows that has no room: the blocks that have to be free, the extents that it has, those that it has
-- room for, and the levels of its tree. Where there is no tree one block becomes the first leaf.
pub record IsAttrGrowth (g : Geometry) (ino : ℕ) (inode : List ℕ) (blocks : ℕ → List ℕ) (free extents extent_room levels : ℕ) : Type 0 where
  pub room : extent_room ≡ length (attr_fork_of inode) / 16
  pub form :
      (¬ IsTreeFork inode × (free ≡ 1) × (extents ≡ 0) × (levels ≡ 0))
      ⊎ (IsTreeFork inode × (levels ≡ levels_of_tree (attr_tree g ino inode blocks)) × (free ≡ tree_growth levels) × (extents ≡ attr_extents_of inode))
