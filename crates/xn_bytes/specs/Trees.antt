-- Hashed trees: the blocks by whose hashes the entries of a directory in node form, or the attributes of an inode, are found
-- (`struct xfs_da3_blkinfo`, `xfs_da3_node_hdr` and `xfs_da_node_entry` of `xfs_da_format.h`). A tree is read from its root,
-- each node before its children and these from left to right, and each block is compared with what was met before it. One
-- definition serves every kind of leaf: what a leaf's bytes hold, and the first and the last hash in them, are its
-- parameters.
use Rattle.std.specs.Prelude.{◌≡◌, ◌≢◌, ◌⊎◌, ℕ, zero, suc, ◌+◌, ◌-◌, ◌<◌, ◌≤◌, ◌==◌, ◌&&◌, ◌||◌, nat_le, nat_lt, Bool, true, false, IsTrue, if◌then◌else◌, List, [], ◌∷◌, ◌++◌, length, map, flat_map, find, count_by, All, Option, Some, None, IsSome, IfSome, slice_range, unwrap_or}
use Rattle.std.specs.List.Sorted.{IsNonDecreasingBy}
use Rattle.xn_bytes.specs.Numbers.{number_at}
use Rattle.xn_bytes.specs.Checksum.{HasChecksum}
use Rattle.xn_bytes.specs.Superblock.{Geometry, IsBlock, sector_of_block}
use Rattle.xn_bytes.specs.Extents.{Run, mapped}
use Rattle.xn_bytes.specs.HashedTree.{Child, children_at, node_magic, single_leaf_magic, leaf_file_block, free_file_block}

-- ---- the fork and its blocks

-- The fork of an inode that has the tree: the geometry, the inode, whether it is the attribute fork, the fork's runs, and
-- the file block of the tree's root.
pub record TreeFork : Type 0 where
  pub geometry : Geometry
  pub owner : ℕ
  pub is_attribute : Bool
  pub runs : List Run
  pub root : ℕ

-- a file block that a block of the tree can have: in a directory those from 8,388,608 to 16,777,215
abbrev pub is_tree_number : Bool → ℕ → Bool
is_tree_number is_attribute file_block = is_attribute || (nat_le leaf_file_block file_block && nat_lt file_block free_file_block)

-- the rule of the checker that a broken tree breaks
abbrev pub tree_rule : Bool → ℕ
tree_rule is_attribute = if is_attribute then 25 else 18

-- a file block that is mapped, and one that the tree can have
pub record IsTreeBlock (is_attribute : Bool) (runs : List Run) (file_block : ℕ) : Type 0 where
  pub number : IsTrue (is_tree_number is_attribute file_block)
  pub there : IsSome (mapped runs file_block)

-- each block that a fork maps is one of the device
abbrev pub AreBlocks : Geometry → List Run → Type 0
AreBlocks g runs = (file_block block : ℕ) → mapped runs file_block ≡ Some block → IsBlock g block

-- the block of the device, 0 for a file block that isn't mapped
abbrev pub block_number : TreeFork → ℕ → ℕ
block_number fork file_block = unwrap_or (mapped fork.runs file_block) 0

-- A block's own place, uuid and owner, in the 56 bytes that leaves and nodes share.
pub record IsOwnBlock (g : Geometry) (owner block : ℕ) (bytes : List ℕ) : Type 0 where
  pub place : number_at 8 16 bytes ≡ sector_of_block g block
  pub uuid : slice_range bytes 32 48 ≡ g.meta_uuid
  pub own_inode : number_at 8 48 bytes ≡ owner

-- the file blocks on the right and on the left on the same level, 0 at the ends
abbrev pub right_in : List ℕ → ℕ
right_in bytes = number_at 4 0 bytes

abbrev pub left_in : List ℕ → ℕ
left_in bytes = number_at 4 4 bytes

abbrev pub magic_in : List ℕ → ℕ
magic_in bytes = number_at 2 8 bytes

-- the level of a block: that which a node says, and 0 of a leaf
abbrev pub level_in : List ℕ → ℕ
level_in bytes = if magic_in bytes == node_magic then number_at 2 58 bytes else 0

-- ---- what a block holds

-- A leaf holds its entries, and a node its children. The first and the last hash, of a node those of its children; none in
-- a leaf without entries.
pub record Held (E : Type 0) : Type 0 where
  pub entries : List E
  pub children : List Child
  pub ends : Option (ℕ × ℕ)

-- the hash of the last child
abbrev pub last_hash : Child → List Child → ℕ
last_hash child [] = child.hash
last_hash child (next ∷ others) = last_hash next others

abbrev pub ends_of_children : List Child → Option (ℕ × ℕ)
ends_of_children [] = None
ends_of_children (child ∷ others) = Some (child.hash, last_hash child others)

-- a node of level 1 or more: 1 to 504 children, sorted by their greatest hashes
pub record IsNode (bytes : List ℕ) (children : List Child) : Type 0 where
  pub is_magic : magic_in bytes ≡ node_magic
  pub checksum : HasChecksum bytes 12
  pub level : 1 ≤ number_at 2 58 bytes
  pub are : children ≡ children_at (number_at 2 56 bytes) 64 bytes
  pub some : 1 ≤ length children
  pub few : length children ≤ 504
  pub sorted : IsNonDecreasingBy (λ child. child.hash) children

-- a leaf that can stand in a tree: the single leaf of a directory in leaf form can't
pub record IsLeaf {E : Type 0} (HoldsLeaf : List ℕ → List E → Type 0) (bytes : List ℕ) (entries : List E) : Type 0 where
  pub no_node : magic_in bytes ≢ node_magic
  pub no_single : magic_in bytes ≢ single_leaf_magic
  pub holds : HoldsLeaf bytes entries

-- the bytes of a block hold this
abbrev pub HoldsBlock : {E : Type 0} → (List ℕ → List E → Type 0) → (List ℕ → Option (ℕ × ℕ)) → List ℕ → Held E → Type 0
HoldsBlock HoldsLeaf ends_of_leaf bytes held =
    (IsLeaf HoldsLeaf bytes held.entries × (held.children ≡ []) × (held.ends ≡ ends_of_leaf bytes))
    ⊎ (IsNode bytes held.children × (held.entries ≡ []) × (held.ends ≡ ends_of_children held.children))

-- ---- the walk

-- what the entry of its parent asks for of a block: its level, and its greatest hash
pub record Asked : Type 0 where
  pub level : ℕ
  pub hash : ℕ

-- a block that is to be read; nothing is asked for of the root
pub record Visit : Type 0 where
  pub file_block : ℕ
  pub asked : Option Asked

-- a block that was read: what the next one of its level is compared with
pub record Met : Type 0 where
  pub file_block : ℕ
  pub level : ℕ
  pub right : ℕ
  pub last : ℕ

-- the last that was met on a level, of those that were met, the latest first
abbrev pub left_on : ℕ → List Met → Option Met
left_on level met = find (λ one. one.level == level) met

-- The level and the hash are those that are asked for; the root's level is 4 at most.
abbrev pub IsAsked : List ℕ → Option (ℕ × ℕ) → Option Asked → Type 0
IsAsked bytes ends None = level_in bytes ≤ 4
IsAsked bytes ends (Some asked) = (level_in bytes ≡ asked.level) × ((first : ℕ) × (ends ≡ Some (first, asked.hash)))

-- A block and its left neighbour name each other, and no hash falls between them. The first of a level names none; 0 is
-- the name of no block.
abbrev pub IsBeside : List ℕ → ℕ → Option (ℕ × ℕ) → Option Met → Type 0
IsBeside bytes file_block ends None = left_in bytes ≡ 0
IsBeside bytes file_block ends (Some left) =
    (left_in bytes ≡ left.file_block) × (left.right ≡ file_block) × (left.right ≢ 0) × IfSome ends (λ hashes. left.last ≤ hashes.0)

-- A block with these bytes stands, whatever stands before it: it is mapped, its own, holds what is asked for, and its
-- children are mapped blocks of the tree.
pub record StandsAlone {E : Type 0} (HoldsLeaf : List ℕ → List E → Type 0) (ends_of_leaf : List ℕ → Option (ℕ × ℕ)) (fork : TreeFork) (bytes : List ℕ) (visit : Visit) (held : Held E) : Type 0 where
  pub there : IsSome (mapped fork.runs visit.file_block)
  pub own : IsOwnBlock fork.geometry fork.owner (block_number fork visit.file_block) bytes
  pub holds : HoldsBlock HoldsLeaf ends_of_leaf bytes held
  pub asked : IsAsked bytes held.ends visit.asked
  pub children : All (λ child. IsTreeBlock fork.is_attribute fork.runs child.file_block) held.children

-- the tree of a fork: what leaves hold, the fork, and the bytes of each block of the device
pub record Tree (E : Type 0) : Type 1 where
  pub HoldsLeaf : List ℕ → List E → Type 0
  pub ends_of_leaf : List ℕ → Option (ℕ × ℕ)
  pub fork : TreeFork
  pub blocks : ℕ → List ℕ

-- the bytes of a file block
abbrev pub bytes_at : {E : Type 0} → Tree E → ℕ → List ℕ
bytes_at tree file_block = tree.blocks (block_number tree.fork file_block)

-- The block of a visit stands behind those that were met: it is none of them, and beside its left neighbour.
pub record Stands {E : Type 0} (tree : Tree E) (met : List Met) (visit : Visit) (held : Held E) : Type 0 where
  pub alone : StandsAlone tree.HoldsLeaf tree.ends_of_leaf tree.fork (bytes_at tree visit.file_block) visit held
  pub new : All (λ one. one.file_block ≢ visit.file_block) met
  pub beside : IsBeside (bytes_at tree visit.file_block) visit.file_block held.ends (left_on (level_in (bytes_at tree visit.file_block)) met)

-- the last hash, 0 in a leaf without entries
abbrev pub last_of : Option (ℕ × ℕ) → ℕ
last_of None = 0
last_of (Some hashes) = hashes.1

-- what is met with a block of these bytes
abbrev pub met_with : List ℕ → Visit → Option (ℕ × ℕ) → Met
met_with bytes visit ends = record {
  file_block = visit.file_block;
  level = level_in bytes;
  right = right_in bytes;
  last = last_of ends;
}

-- a child is read as one level below its parent, with the hash that the parent's entry has
abbrev pub visit_to : ℕ → Child → Visit
visit_to level child = record { file_block = child.file_block; asked = Some (record { level = level - 1; hash = child.hash }) }

abbrev pub visits_below : {E : Type 0} → List ℕ → Held E → List Visit
visits_below bytes held = map (visit_to (level_in bytes)) held.children

-- the last of each level has none on its right
abbrev pub AreEnds : List Met → Type 0
AreEnds met = (level : ℕ) → IfSome (left_on level met) (λ one. one.right ≡ 0)

-- The walk goes through these visits, behind those that were met, and the blocks that it reads hold these things, one
-- behind the other.
abbrev pub Walks : {E : Type 0} → Tree E → List (Held E) → List Met → List Visit → Type 0
Walks tree [] met [] = AreEnds met
Walks tree [] met (visit ∷ agenda) = ⊥
Walks tree (held ∷ others) met [] = ⊥
Walks tree (held ∷ others) met (visit ∷ agenda) =
    Stands tree met visit held
    × Walks tree others (met_with (bytes_at tree visit.file_block) visit held.ends ∷ met) (visits_below (bytes_at tree visit.file_block) held ++ agenda)

-- where every walk begins
abbrev pub root_visit : TreeFork → Visit
root_visit fork = record { file_block = fork.root; asked = None }

-- The blocks of the tree, in the order of the walk, hold these things: rule 18 of a directory in node form, and rule 25 of
-- an attribute fork that is no short form.
abbrev pub IsTree : {E : Type 0} → Tree E → List (Held E) → Type 0
IsTree tree helds = Walks tree helds [] (root_visit tree.fork ∷ [])

-- the entries of blocks, one behind the other
abbrev pub entries_in : {E : Type 0} → List (Held E) → List E
entries_in helds = flat_map (λ held. held.entries) helds

-- the tree holds these entries, from left to right
abbrev pub TreeHolds : {E : Type 0} → Tree E → List E → Type 0
TreeHolds {E} tree entries = (helds : List (Held E)) × IsTree tree helds × (entries ≡ entries_in helds)

-- ---- the first block that fails

-- the last of a level has one on its right, and none of a higher level has
pub record IsOpenEnd (met : List Met) (last : Met) : Type 0 where
  pub level : ℕ
  pub is_last : left_on level met ≡ Some last
  pub open_end : last.right ≢ 0
  pub higher : (other : ℕ) → level < other → IfSome (left_on other met) (λ one. one.right ≡ 0)

-- Behind those that were met the walk goes on through blocks that hold these things, and then comes to the first that fails;
-- or, where none fails, to the ends of the levels.
abbrev pub WalksToFault : {E : Type 0} → Tree E → List (Held E) → List Met → List Visit → ℕ → Type 0
WalksToFault tree [] met [] block = (last : Met) × IsOpenEnd met last × (block ≡ block_number tree.fork last.file_block)
WalksToFault {E} tree [] met (visit ∷ agenda) block =
    (block ≡ block_number tree.fork visit.file_block) × ((held : Held E) → ¬ Stands tree met visit held)
WalksToFault tree (held ∷ others) met [] block = ⊥
WalksToFault tree (held ∷ others) met (visit ∷ agenda) block =
    Stands tree met visit held
    × WalksToFault tree others (met_with (bytes_at tree visit.file_block) visit held.ends ∷ met) (visits_below (bytes_at tree visit.file_block) held ++ agenda) block

-- the tree is none, and this block is the first that fails
abbrev pub BreaksAt : {E : Type 0} → Tree E → ℕ → Type 0
BreaksAt {E} tree block = (helds : List (Held E)) × WalksToFault tree helds [] (root_visit tree.fork ∷ []) block

-- ---- a path

-- how many blocks a path from the root has, the leaf included
abbrev pub levels_of_tree : {E : Type 0} → Tree E → ℕ
levels_of_tree tree = level_in (bytes_at tree tree.fork.root) + 1

-- the first child whose greatest hash is not below a hash, else the last
abbrev pub child_for : ℕ → Child → List Child → Child
child_for hash child [] = child
child_for hash child (next ∷ others) = if nat_le hash child.hash then child else child_for hash next others

-- the file block of the leaf to which the descent to a hash leads from a file block, so many levels down
abbrev pub DescendsTo : {E : Type 0} → ℕ → Tree E → ℕ → ℕ → ℕ → Type 0
DescendsTo zero tree hash file_block leaf = leaf ≡ file_block
DescendsTo (suc level) tree hash file_block leaf =
    (child : Child) × (others : List Child) × (children_at (number_at 2 56 (bytes_at tree file_block)) 64 (bytes_at tree file_block) ≡ child ∷ others)
    × DescendsTo level tree hash (child_for hash child others).file_block leaf

-- the leaf of the descent to a hash
abbrev pub IsLeafFor : {E : Type 0} → Tree E → ℕ → ℕ → Type 0
IsLeafFor tree hash leaf = DescendsTo (level_in (bytes_at tree tree.fork.root)) tree hash tree.fork.root leaf

-- the last hash is this
abbrev pub ends_at : ℕ → Option (ℕ × ℕ) → Bool
ends_at hash None = false
ends_at hash (Some both) = both.1 == hash

abbrev pub has_none : List Child → Bool
has_none [] = true
has_none (child ∷ others) = false

-- how many leaves, among blocks, end with a hash, stale entries counted
abbrev pub leaves_to : {E : Type 0} → ℕ → List (Held E) → ℕ
leaves_to hash helds = count_by (λ held. has_none held.children && ends_at hash held.ends) helds

-- ---- a look-up

-- the block of a visit stands, whatever stands before it
abbrev pub StandsBy : {E : Type 0} → Tree E → Visit → Held E → Type 0
StandsBy tree visit held = StandsAlone tree.HoldsLeaf tree.ends_of_leaf tree.fork (bytes_at tree visit.file_block) visit held

-- of the block on the right nothing is asked but where it is
abbrev pub right_of : Met → Visit
right_of left = record { file_block = left.right; asked = None }

-- a leaf stands on the right of those that were met
abbrev pub StandsRight : {E : Type 0} → Tree E → List Met → Visit → Held E → Type 0
StandsRight tree met visit held = (level_in (bytes_at tree visit.file_block) ≡ 0) × Stands tree met visit held

-- entries of a hash can be behind a leaf: it has one on its right, and no greater hash
pub record GoesRight (hash : ℕ) (left : Met) : Type 0 where
  pub some : left.right ≢ 0
  pub low : left.last ≤ hash

-- Behind a leaf and those that were met before it the way along its right siblings goes on through leaves that hold these
-- things, and then comes to the first block that fails.
abbrev pub FollowsToFault : {E : Type 0} → Tree E → ℕ → List (Held E) → Met → List Met → ℕ → Type 0
FollowsToFault {E} tree hash [] left met block =
    GoesRight hash left × (block ≡ block_number tree.fork left.right) × ((held : Held E) → ¬ StandsRight tree (left ∷ met) (right_of left) held)
FollowsToFault tree hash (held ∷ others) left met block =
    GoesRight hash left × StandsRight tree (left ∷ met) (right_of left) held
    × FollowsToFault tree hash others (met_with (bytes_at tree left.right) (right_of left) held.ends) (left ∷ met) block

-- From a visit the way to a hash goes down through blocks that hold these things, and then along the right siblings of the
-- leaf, to the first block that fails.
abbrev pub SeeksToFault : {E : Type 0} → Tree E → ℕ → List (Held E) → Visit → ℕ → Type 0
SeeksToFault {E} tree hash [] visit block = (block ≡ block_number tree.fork visit.file_block) × ((held : Held E) → ¬ StandsBy tree visit held)
SeeksToFault tree hash (held ∷ others) visit block =
    StandsBy tree visit held
    × (((child : Child) × (siblings : List Child) × (held.children ≡ child ∷ siblings)
    × SeeksToFault tree hash others (visit_to (level_in (bytes_at tree visit.file_block)) (child_for hash child siblings)) block)
    ⊎ ((held.children ≡ []) × FollowsToFault tree hash others (met_with (bytes_at tree visit.file_block) visit held.ends) [] block))

-- the tree is none, and this block is the first that fails on the way of a hash
abbrev pub FailsFor : {E : Type 0} → Tree E → ℕ → ℕ → Type 0
FailsFor {E} tree hash block =
    ((helds : List (Held E)) → ¬ IsTree tree helds) × ((helds : List (Held E)) × SeeksToFault tree hash helds (root_visit tree.fork) block)
