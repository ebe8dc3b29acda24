-- The leaf entries and bests of a directory in leaf or node form, against its data blocks.
use Rattle.std.specs.Prelude.{◌≡◌, ◌≢◌, ◌⊎◌, ℕ, ◌+◌, ◌≤◌, List, length, map, All, AllPairs, IsPermutation, IsSome}
use Rattle.xn_bytes.specs.Extents.{Run, mapped}
use Rattle.xn_bytes.specs.DataBlock.{DataForm, LeafEntry}
use Rattle.xn_bytes.specs.HashedTree.{leaf_file_block}
use Rattle.xn_bytes.specs.DirectoryForms.{leaf_of}
use Rattle.xn_bytes.specs.LeafForms.{DirFork, Placed, AreData, HasLeaves, BreaksLeaves, AreLeavesOf, HasBests, all_entries, with_first}
use Rattle.xn_bytes.specs.DirectoryRules.{OrBreaks}
use Rattle.xn_dir.specs.declared.bests.Best.{Best}
use Rattle.xn_dir.specs.Bests.{noted}

-- the leaf entries that these data blocks ask for, in any order, and their bests
pub record AreGathered (d : DirFork) (first : DataForm) (others : List Placed) (leaves : List LeafEntry) (bests : List Best) : Type 0 where
  pub data_blocks : AreData d (with_first first others)
  pub leaves_are : IsPermutation leaves (map leaf_of (all_entries first others))
  pub bests_are : map noted (with_first first others) ≡ bests

-- rules 18 to 20 hold
pub record HasIndex (d : DirFork) (first : DataForm) (others : List Placed) : Type 0 where
  pub live : List LeafEntry
  pub leaves : HasLeaves d live
  pub index : AreLeavesOf live (all_entries first others)
  pub bests : HasBests d (with_first first others)

-- or one of them is the first that doesn't
abbrev pub BreaksIndex : DirFork → DataForm → List Placed → ℕ → ℕ → Type 0
BreaksIndex d first others rule block =
    ((rule ≡ 18) × BreaksLeaves d block)
    ⊎ ((live : List LeafEntry) × HasLeaves d live
    × OrBreaks rule block 19 0 (AreLeavesOf live (all_entries first others)) ((rule ≡ 20) × (block ≡ 0) × ¬ HasBests d (with_first first others)))

-- what the data blocks ask for was gathered, and rules 18 to 20 hold
abbrev pub IsIndexed : DirFork → List LeafEntry → List Best → Type 0
IsIndexed d leaves bests = (first : DataForm) (others : List Placed) → AreGathered d first others leaves bests → HasIndex d first others

-- or one of them is the first that doesn't
abbrev pub IsMisindexed : DirFork → List LeafEntry → List Best → ℕ → ℕ → Type 0
IsMisindexed d leaves bests rule block =
    (first : DataForm) (others : List Placed) → AreGathered d first others leaves bests → BreaksIndex d first others rule block

-- at most one fetch for each of these blocks of leaves, nodes and free-index blocks
pub record FetchesIndex (runs : List Run) (before now : ℕ) : Type 0 where
  pub read : List ℕ
  pub once : AllPairs (λ a b. a ≢ b) read
  pub behind : All (λ file_block. leaf_file_block ≤ file_block) read
  pub there : All (λ file_block. IsSome (mapped runs file_block)) read
  pub fetches : now ≤ before + length read
