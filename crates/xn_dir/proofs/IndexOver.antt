-- Rules 18 to 20 of a directory in leaf or node form, by what was read.
use Rattle.std.proofs.Common.{◌≡◌, ℕ, ◌<◌, Bool, false, List, map, Option, Some, None, refl, sym, subst, ◌∙◌, arith, inl, inr}
use Rattle.std.specs.Prelude.{◌↔◌, IsTrue, IsSome, IsPermutation, MatchOption, unwrap_or}
use Rattle.std.proofs.lemmas.List.Sorted.{IsPermutation-sym, IsPermutation-trans}
use Rattle.xn_bytes.specs.Superblock.{Geometry}
use Rattle.xn_bytes.specs.Blocks.{block_of}
use Rattle.xn_bytes.specs.Extents.{Run, mapped}
use Rattle.xn_bytes.specs.DataBlock.{DataForm, LeafEntry}
use Rattle.xn_bytes.specs.HashedTree.{DirLeafHolds, dir_leaf_ends, leaf_file_block}
use Rattle.xn_bytes.specs.Trees.{Tree, TreeHolds}
use Rattle.xn_bytes.specs.DirectoryForms.{IsLeafForm, IsGreatestData, leaf_of}
use Rattle.xn_bytes.specs.LeafForms.{DirFork, Placed, AreData, AreLeavesOf, HasBests, HasFreeIndexes, HasLeaves, HasLeafBests, all_entries, with_first}
use Rattle.xn_inode.specs.Lists.{IsLastMapped}
use Rattle.xn_datree.specs.declared.fork.Fork.{Fork}
use Rattle.xn_datree.specs.Forks.{tree_of}
use Rattle.xn_dir.specs.declared.bests.Best.{Best}
use Rattle.xn_dir.specs.declared.single_leaf.SingleLeaf.{SingleLeaf}
use Rattle.xn_dir.specs.Bests.{AreNoted, AreRising, noted}
use Rattle.xn_dir.specs.Hashed.{IsDirFork, dir_fork}
use Rattle.xn_dir.specs.SingleLeaves.{IsLeafRead}
use Rattle.xn_dir.specs.Indexed.{AreGathered, BreaksIndex, HasIndex}
use Rattle.xn_dir.proofs.LeafEntries.{tree_is}
use Rattle.xn_dir.proofs.Noted.{leaf_bests}
use Rattle.xn_dir.proofs.OneForm.{same_block}

-- leaf entries that are wanted, as those of all entries
wanted_are : (d : DirFork) (first : DataForm) (others : List Placed) (leaves live : List LeafEntry) (bests : List Best) → AreGathered d first others leaves bests → IsPermutation leaves live → AreLeavesOf live (all_entries first others)
wanted_are d first others leaves live bests gathered same =
    let all : List LeafEntry = map leaf_of (all_entries first others) in
    IsPermutation-trans all leaves live (IsPermutation-sym leaves all gathered.leaves_are) same

are_wanted : (d : DirFork) (first : DataForm) (others : List Placed) (leaves live : List LeafEntry) (bests : List Best) → AreGathered d first others leaves bests → AreLeavesOf live (all_entries first others) → IsPermutation leaves live
are_wanted d first others leaves live bests gathered same = IsPermutation-trans leaves (map leaf_of (all_entries first others)) live gathered.leaves_are same

-- other leaf entries than those that are wanted
pub breaks_19 : (d : DirFork) (first : DataForm) (others : List Placed) (leaves live : List LeafEntry) (bests : List Best) → HasLeaves d live → (IsPermutation leaves live → ⊥) → AreGathered d first others leaves bests → BreaksIndex d first others 19 0
breaks_19 d first others leaves live bests has other gathered = inr (live, has, inl (refl, refl, λ same. other (are_wanted d first others leaves live bests gathered same)))

-- other bests
breaks_20 : (d : DirFork) (first : DataForm) (others : List Placed) (leaves live : List LeafEntry) (bests : List Best) → HasLeaves d live → IsPermutation leaves live → (HasBests d (with_first first others) → ⊥) → AreGathered d first others leaves bests
    → BreaksIndex d first others 20 0
breaks_20 d first others leaves live bests has same other gathered = inr (live, has, inr (wanted_are d first others leaves live bests gathered same, (refl, refl, other)))

-- ---- node form

pub leaves_of_tree : (g : Geometry) (fork : Fork) (x : List ℕ) (live : List LeafEntry) → IsDirFork fork → (IsLeafForm fork.extents → ⊥) → TreeHolds (tree_of DirLeafHolds dir_leaf_ends g fork x) live → HasLeaves (dir_fork g fork x) live
leaves_of_tree g fork x live is node holds = inr (node, subst (λ (T : Tree LeafEntry). TreeHolds T live) (tree_is g fork x is) holds)

node_bests : (d : DirFork) (data_blocks : List Placed) → (IsLeafForm d.runs → ⊥) → HasBests d data_blocks → HasFreeIndexes d data_blocks
node_bests d data_blocks node (inl leaf) = absurd (node leaf.0)
node_bests d data_blocks node (inr indexes) = indexes.1

-- what tells of the free-index blocks
abbrev pub TellsIndexes : DirFork → List Best → Bool → Type 0
TellsIndexes d bests right = (data_blocks : List Placed) → AreData d data_blocks → map noted data_blocks ≡ bests → IsTrue right ↔ HasFreeIndexes d data_blocks

pub node_breaks_20 : (d : DirFork) (first : DataForm) (others : List Placed) (leaves live : List LeafEntry) (bests : List Best) (right : Bool) → (IsLeafForm d.runs → ⊥) → HasLeaves d live → IsPermutation leaves live
    → TellsIndexes d bests right → (IsTrue right → ⊥) → AreGathered d first others leaves bests → BreaksIndex d first others 20 0
node_breaks_20 d first others leaves live bests right node has same tells wrong gathered =
    breaks_20 d first others leaves live bests has same
    (λ holds. wrong ((tells (with_first first others) gathered.data_blocks gathered.bests_are).1 (node_bests d (with_first first others) node holds))) gathered

pub node_index : (d : DirFork) (first : DataForm) (others : List Placed) (leaves live : List LeafEntry) (bests : List Best) (right : Bool) → (IsLeafForm d.runs → ⊥) → HasLeaves d live → IsPermutation leaves live
    → TellsIndexes d bests right → IsTrue right → AreGathered d first others leaves bests → HasIndex d first others
node_index d first others leaves live bests right node has same tells is gathered = record {
  live = live;
  leaves = has;
  index = wanted_are d first others leaves live bests gathered same;
  bests = inr (node, (tells (with_first first others) gathered.data_blocks gathered.bests_are).0 is);
}

-- ---- leaf form

-- what was read of the single leaf
abbrev pub ReadsLeaf : Geometry → Fork → List ℕ → SingleLeaf → Type 0
ReadsLeaf g fork x leaf = (block : ℕ) × (mapped fork.extents leaf_file_block ≡ Some block) × IsLeafRead g fork.owner block (block_of g x block) leaf

pub leaves_of_leaf : (g : Geometry) (fork : Fork) (x : List ℕ) (leaf : SingleLeaf) → IsLeafForm fork.extents → ReadsLeaf g fork x leaf → HasLeaves (dir_fork g fork x) leaf.live.items
leaves_of_leaf g fork x leaf form read = inl (form, (read.0, read.1, read.2.0))

none_is_some : (o : Option ℕ) → o ≡ None → IsSome o → ⊥
none_is_some None is some = absurd cc
none_is_some (Some x) is some = absurd cc

last_is : (runs : List Run) (o : Option ℕ) → MatchOption o ((file_block : ℕ) → file_block < leaf_file_block → mapped runs file_block ≡ None) (IsLastMapped runs leaf_file_block) → IsSome (mapped runs 0) → IsGreatestData runs (unwrap_or o 0)
last_is runs None none some = absurd (none_is_some _ (none 0 (omega arith)) some)
last_is runs (Some last) is some = record { is_data = is.below; is_mapped = is.there; last = λ other behind below. is.last other behind below }

first_mapped : (d : DirFork) (first : DataForm) (others : List Placed) → AreData d (with_first first others) → IsSome (mapped d.runs 0)
first_mapped d first others are = let placed = are.each 0 (record { number = 0; form = first }) (omega arith) in rw placed.1 refl

-- what tells of the bests behind the single leaf
leaf_tells : (g : Geometry) (fork : Fork) (x : List ℕ) (leaf : SingleLeaf) (first : DataForm) (others : List Placed) (leaves : List LeafEntry) (bests : List Best) (o : Option ℕ) (right : Bool) → (read : ReadsLeaf g fork x leaf)
    → MatchOption o ((file_block : ℕ) → file_block < leaf_file_block → mapped fork.extents file_block ≡ None) (IsLastMapped fork.extents leaf_file_block)
    → (AreRising bests → IsTrue right ↔ AreNoted (unwrap_or o 0) bests leaf.bests.items) → AreGathered (dir_fork g fork x) first others leaves bests
    → IsTrue right ↔ HasLeafBests (dir_fork g fork x) (with_first first others) read.0
leaf_tells g fork x leaf first others leaves bests o right read last tells gathered =
    leaf_bests (dir_fork g fork x) read.0 (with_first first others) (block_of g x read.0) (unwrap_or o 0) bests leaf.bests.items right read.2.1 tells refl
    (last_is fork.extents o last (first_mapped (dir_fork g fork x) first others gathered.data_blocks)) gathered.data_blocks gathered.bests_are

leaf_form_bests : (d : DirFork) (data_blocks : List Placed) (block : ℕ) → IsLeafForm d.runs → mapped d.runs leaf_file_block ≡ Some block → HasBests d data_blocks → HasLeafBests d data_blocks block
leaf_form_bests d data_blocks block form there (inl leaf) = subst (HasLeafBests d data_blocks) (same_block leaf.1.0 block _ leaf.1.1 there) leaf.1.2
leaf_form_bests d data_blocks block form there (inr indexes) = absurd (indexes.0 form)

pub leaf_breaks_20 : (g : Geometry) (fork : Fork) (x : List ℕ) (leaf : SingleLeaf) (first : DataForm) (others : List Placed) (leaves : List LeafEntry) (bests : List Best) (o : Option ℕ) (right : Bool) → IsLeafForm fork.extents → ReadsLeaf g fork x leaf
    → MatchOption o ((file_block : ℕ) → file_block < leaf_file_block → mapped fork.extents file_block ≡ None) (IsLastMapped fork.extents leaf_file_block)
    → (AreRising bests → IsTrue right ↔ AreNoted (unwrap_or o 0) bests leaf.bests.items) → IsPermutation leaves leaf.live.items → (IsTrue right → ⊥) → AreGathered (dir_fork g fork x) first others leaves bests
    → BreaksIndex (dir_fork g fork x) first others 20 0
leaf_breaks_20 g fork x leaf first others leaves bests o right form read last tells same wrong gathered =
    breaks_20 (dir_fork g fork x) first others leaves leaf.live.items bests (leaves_of_leaf g fork x leaf form read) same
    (λ holds. wrong ((leaf_tells g fork x leaf first others leaves bests o right read last tells gathered).1 (leaf_form_bests (dir_fork g fork x) (with_first first others) read.0 form read.1 holds))) gathered

pub leaf_index : (g : Geometry) (fork : Fork) (x : List ℕ) (leaf : SingleLeaf) (first : DataForm) (others : List Placed) (leaves : List LeafEntry) (bests : List Best) (o : Option ℕ) (right : Bool) → IsLeafForm fork.extents → ReadsLeaf g fork x leaf
    → MatchOption o ((file_block : ℕ) → file_block < leaf_file_block → mapped fork.extents file_block ≡ None) (IsLastMapped fork.extents leaf_file_block)
    → (AreRising bests → IsTrue right ↔ AreNoted (unwrap_or o 0) bests leaf.bests.items) → IsPermutation leaves leaf.live.items → IsTrue right → AreGathered (dir_fork g fork x) first others leaves bests → HasIndex (dir_fork g fork x) first others
leaf_index g fork x leaf first others leaves bests o right form read last tells same is gathered = record {
  live = leaf.live.items;
  leaves = leaves_of_leaf g fork x leaf form read;
  index = wanted_are (dir_fork g fork x) first others leaves leaf.live.items bests gathered same;
  bests = inl (form, (read.0, read.1, (leaf_tells g fork x leaf first others leaves bests o right read last tells gathered).0 is));
}

-- ---- answers that are yes or no

pub no_true : (b : Bool) → b ≡ false → IsTrue b → ⊥
no_true b is_false is_true = let e = sym is_false ∙ is_true in absurd cc
