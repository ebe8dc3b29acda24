-- What is read of a directory in leaf or node form.
use Rattle.std.specs.Prelude.{◌≡◌, ◌≢◌, ◌⊎◌, ℕ, ◌+◌, ◌*◌, ◌/◌, false, List, Contains}
use Rattle.xn_bytes.specs.Superblock.{Geometry}
use Rattle.xn_bytes.specs.Extents.{Run}
use Rattle.xn_bytes.specs.Entries as held
use Rattle.xn_bytes.specs.DataBlock.{DataForm, LeafEntry, entries_among}
use Rattle.xn_bytes.specs.HashedTree.{leaf_file_block}
use Rattle.xn_bytes.specs.DirectoryForms.{HasDots, IsDataNumber, IsGreatestData, data_runs_of}
use Rattle.xn_bytes.specs.LeafForms.{DirFork, Placed, IsPlaced, HasData, all_entries, entries_placed}
use Rattle.xn_bytes.specs.DirectoryRules.{FailsData}
use Rattle.xn_datree.specs.declared.fork.Fork.{Fork}
use Rattle.xn_dir.specs.Blocks.{fork_over}

-- the data fork of a directory, as that of its tree
pub record IsDirFork (fork : Fork) : Type 0 where
  pub is_data : fork.attribute ≡ false
  pub root : fork.root ≡ leaf_file_block

-- the data fork of this inode
pub record IsForkOf (dir : ℕ) (inode : List ℕ) (fork : Fork) : Type 0 where
  pub is_fork : IsDirFork fork
  pub owner : fork.owner ≡ dir
  pub runs : fork.extents ≡ data_runs_of inode

-- a size that reaches to the end of the greatest mapped data block
abbrev pub HasSize : List Run → ℕ → Type 0
HasSize runs size = (number : ℕ) × IsGreatestData runs number × (size ≡ 4096 * (number + 1))

-- the same over an image
abbrev pub dir_fork : Geometry → Fork → List ℕ → DirFork
dir_fork g fork image = fork_over g fork.owner fork.extents image

-- the first data block is right, with this dotdot
pub record HasDotdotFirst (d : DirFork) (dotdot : ℕ) : Type 0 where
  pub first : DataForm
  pub is_placed : IsPlaced d (record { number = 0; form = first })
  pub front : List held.Entry
  pub dots : HasDots (entries_among first.regions) front dotdot

-- ---- one leaf entry

-- an entry stands in a data block, by its position in the directory's data
pub record StandsIn (d : DirFork) (entry : held.Entry) : Type 0 where
  pub placed : Placed
  pub is_data : IsDataNumber placed.number
  pub is_placed : IsPlaced d placed
  pub there : Contains (entries_placed placed) entry

-- a leaf entry leads to an entry with another name
pub record LeadsElsewhere (d : DirFork) (name : List ℕ) (leaf : LeafEntry) : Type 0 where
  pub entry : held.Entry
  pub stands : StandsIn d entry
  pub place : entry.position ≡ leaf.address * 8
  pub other : entry.name ≢ name

-- a leaf entry leads to no entry of the directory
abbrev pub LeadsNowhere : DirFork → LeafEntry → Type 0
LeadsNowhere d leaf =
    (first : DataForm) (others : List Placed) (front : List held.Entry) (dotdot : ℕ) → HasData d first others front dotdot
    → (entry : held.Entry) → Contains (all_entries first others) entry → entry.position / 8 ≢ leaf.address

-- what a leaf entry that is followed breaks: rule 17 of its data block, or rule 19
abbrev pub BreaksAtLeaf : DirFork → LeafEntry → ℕ → ℕ → Type 0
BreaksAtLeaf d leaf rule block =
    ((rule ≡ 17) × ((number : ℕ) × FailsData d number block)) ⊎ ((rule ≡ 19) × (block ≡ 0) × LeadsNowhere d leaf)
