-- Which rule of the checker a directory breaks, by its inode's bytes and its blocks. Rules are numbered as the
-- program tells them; those of blocks name a block by its number on the device, all others block 0.
use Rattle.std.specs.Prelude.{◌≡◌, ◌≢◌, ◌⊎◌, ℕ, ◌<◌, List, ◌++◌, flat_map, IsSome, unwrap_or}
use Rattle.xn_bytes.specs.Numbers.{number_at}
use Rattle.xn_bytes.specs.Superblock.{Geometry}
use Rattle.xn_bytes.specs.Blocks.{block_of}
use Rattle.xn_bytes.specs.Inode.{inode_of, local_format, HasCore, HasBothForks}
use Rattle.xn_bytes.specs.Extents.{Run, mapped}
use Rattle.xn_bytes.specs.Entries.{Entry}
use Rattle.xn_bytes.specs.ShortDirectory.{ShortForm, ShortHolds}
use Rattle.xn_bytes.specs.DataBlock.{DataForm, LeafEntry, entries_among}
use Rattle.xn_bytes.specs.Trees.{FailsFor}
use Rattle.xn_bytes.specs.Directory.{HasShortSize, short_bytes_of, HasNames}
use Rattle.xn_bytes.specs.DirectoryForms.{HasExtentLists, IsBlockForm, IsLeafForm, IsDataNumber, data_runs_of, HasBlocksSize, HoldsFirst, HasDots, HasTail, IsIndexOf}
use Rattle.xn_bytes.specs.LeafForms.{DirFork, Placed, IsPlaced, HasData, HasLeaves, BreaksLeaves, AreLeavesOf, HasBests, IsInBlocks, data_fork_in, entries_placed, all_entries, with_first, tree_in}

-- The rule and the block that are named are these, and this fact doesn't hold; or it holds and the rest goes on.
abbrev pub OrBreaks : ℕ → ℕ → ℕ → ℕ → Type 0 → Type 0 → Type 0
OrBreaks rule block number place Fact Rest = ((rule ≡ number) × (block ≡ place) × ¬ Fact) ⊎ (Fact × Rest)

-- the rules of any inode: core, forks, lists of extents
abbrev pub OrBreaksInode : Geometry → ℕ → List ℕ → ℕ → ℕ → Type 0 → Type 0
OrBreaksInode g dir inode rule block Rest =
    OrBreaks rule block 10 0 (HasCore inode dir g.meta_uuid)
    (OrBreaks rule block 11 0 (HasBothForks g inode dir)
    (OrBreaks rule block 13 0 (HasExtentLists g inode) Rest))

-- of short form: size, form, names
abbrev pub BreaksShort : List ℕ → ℕ → ℕ → Type 0
BreaksShort inode rule block =
    OrBreaks rule block 15 0 (HasShortSize inode)
    (OrBreaks rule block 16 0 ((form : ShortForm) × ShortHolds (short_bytes_of inode) form)
    ((rule ≡ 21) × (block ≡ 0) × ((form : ShortForm) × ShortHolds (short_bytes_of inode) form × ¬ HasNames form.entries)))

-- what rules of the first block's bytes speak of, once they are a data block of the directory
abbrev pub BreaksTail : ℕ → DataForm → List Entry → ℕ → ℕ → Type 0
BreaksTail place form entries rule block =
    OrBreaks rule block 18 place (HasTail form)
    (OrBreaks rule block 19 0 (IsIndexOf form.leaves (entries_among form.regions))
    ((rule ≡ 21) × (block ≡ 0) × ¬ HasNames entries))

-- of the first block in block form: header and regions, leaf entries, leaf entries against entries, names
abbrev pub BreaksFirst : Geometry → ℕ → ℕ → List ℕ → ℕ → ℕ → Type 0
BreaksFirst g dir place bytes rule block =
    ((rule ≡ 17) × (block ≡ place) × ((form : DataForm) (entries : List Entry) (dotdot : ℕ) → ¬ HoldsFirst g dir place bytes form entries dotdot))
    ⊎ ((form : DataForm) × (entries : List Entry) × (dotdot : ℕ) × HoldsFirst g dir place bytes form entries dotdot × BreaksTail place form entries rule block)

-- in block form
abbrev pub BreaksBlock : Geometry → ℕ → List ℕ → (ℕ → List ℕ) → ℕ → ℕ → Type 0
BreaksBlock g dir inode blocks rule block =
    (place : ℕ) × IsBlockForm (data_runs_of inode) place
    × OrBreaks rule block 15 0 (HasBlocksSize inode) (BreaksFirst g dir place (blocks place) rule block)

-- ---- leaf and node form

-- a data block that has to be right: the first, and each that is mapped
abbrev pub IsDataAt : List Run → ℕ → Type 0
IsDataAt runs number = IsDataNumber number × ((number ≡ 0) ⊎ IsSome (mapped runs number))

-- the data block of a number is right: it is one, and the first has dot and dotdot in front
abbrev pub IsRightData : DirFork → ℕ → Type 0
IsRightData d number =
    (form : DataForm) × IsPlaced d (record { number = number; form = form })
    × (number ≡ 0 → (front : List Entry) × (dotdot : ℕ) × HasDots (entries_among form.regions) front dotdot)

-- a data block that isn't right, by its block on the device, 0 where it isn't mapped
pub record FailsData (d : DirFork) (number block : ℕ) : Type 0 where
  pub is_data : IsDataAt d.runs number
  pub is_wrong : ¬ IsRightData d number
  pub block_is : block ≡ unwrap_or (mapped d.runs number) 0

-- of rule 17: the least number whose data block isn't right
abbrev pub BreaksData : DirFork → ℕ → Type 0
BreaksData d block = (number : ℕ) × FailsData d number block × ((lesser : ℕ) → lesser < number → IsDataAt d.runs lesser → IsRightData d lesser)

-- of the rules behind it, once the data blocks are right: leaf entries, leaf entries against entries, bests, names
abbrev pub BreaksBehind : DirFork → DataForm → List Placed → List Entry → ℕ → ℕ → Type 0
BreaksBehind d first others front rule block =
    ((rule ≡ 18) × BreaksLeaves d block)
    ⊎ ((live : List LeafEntry) × HasLeaves d live
    × OrBreaks rule block 19 0 (AreLeavesOf live (all_entries first others))
    (OrBreaks rule block 20 0 (HasBests d (with_first first others))
    ((rule ≡ 21) × (block ≡ 0) × ¬ HasNames (front ++ flat_map entries_placed others))))

-- the first of the rules 17 to 21 that is broken
abbrev pub BreaksHashed : DirFork → ℕ → ℕ → Type 0
BreaksHashed d rule block =
    ((rule ≡ 17) × BreaksData d block)
    ⊎ ((first : DataForm) × (others : List Placed) × (front : List Entry) × (dotdot : ℕ) × HasData d first others front dotdot × BreaksBehind d first others front rule block)

-- the first of the rules 15 and 17 to 21
abbrev pub BreaksBlocks : Geometry → ℕ → List ℕ → (ℕ → List ℕ) → ℕ → ℕ → Type 0
BreaksBlocks g dir inode blocks rule block =
    IsInBlocks inode × OrBreaks rule block 15 0 (HasBlocksSize inode) (BreaksHashed (data_fork_in g dir inode blocks) rule block)

-- The leaf entries are wrong: in leaf form the leaf is named, in node form the first block that fails on the way of a hash.
abbrev pub FailsLeaves : DirFork → ℕ → Type 0
FailsLeaves d block =
    (IsLeafForm d.runs × BreaksLeaves d block) ⊎ (¬ IsLeafForm d.runs × ((hash : ℕ) × FailsFor (tree_in d) hash block))

-- the leaf entries aren't those of the entries, where all data blocks and leaves are right
abbrev pub FailsIndex : DirFork → Type 0
FailsIndex d =
    (first : DataForm) (others : List Placed) (front : List Entry) (dotdot : ℕ) (live : List LeafEntry)
    → HasData d first others front dotdot → HasLeaves d live → ¬ AreLeavesOf live (all_entries first others)

-- one of the rules 17 to 19 that is broken, be it the first or not
abbrev pub FailsHashed : DirFork → ℕ → ℕ → Type 0
FailsHashed d rule block =
    ((rule ≡ 17) × ((number : ℕ) × FailsData d number block))
    ⊎ ((rule ≡ 18) × FailsLeaves d block)
    ⊎ ((rule ≡ 19) × (block ≡ 0) × FailsIndex d)

-- rule 15, or else one of these
abbrev pub FailsBlocks : Geometry → ℕ → List ℕ → (ℕ → List ℕ) → ℕ → ℕ → Type 0
FailsBlocks g dir inode blocks rule block =
    IsInBlocks inode × OrBreaks rule block 15 0 (HasBlocksSize inode) (FailsHashed (data_fork_in g dir inode blocks) rule block)

-- ---- a directory

-- a rule that is broken, where those of leaf and node form are these
abbrev pub OrBreaksForm : Geometry → ℕ → List ℕ → (ℕ → List ℕ) → ℕ → ℕ → Type 0 → Type 0
OrBreaksForm g dir inode blocks rule block InBlocks =
    OrBreaksInode g dir inode rule block
    (((number_at 1 5 inode ≡ local_format) × BreaksShort inode rule block)
    ⊎ ((number_at 1 5 inode ≢ local_format) × (BreaksBlock g dir inode blocks rule block ⊎ InBlocks)))

-- The least of the rules 10, 11, 13 and 15 to 21 that a directory breaks, and the block that it names. Of rule 21 these
-- are the names: each entry has one, and each stands once.
abbrev pub BreaksFirstRule : Geometry → ℕ → List ℕ → (ℕ → List ℕ) → ℕ → ℕ → Type 0
BreaksFirstRule g dir inode blocks rule block = OrBreaksForm g dir inode blocks rule block (BreaksBlocks g dir inode blocks rule block)

-- The rule that a look-up names: the least that is broken, but in leaf and node form, where it doesn't look at everything,
-- one of those that are.
abbrev pub FailsRule : Geometry → ℕ → List ℕ → (ℕ → List ℕ) → ℕ → ℕ → Type 0
FailsRule g dir inode blocks rule block = OrBreaksForm g dir inode blocks rule block (FailsBlocks g dir inode blocks rule block)

-- the same over an image
abbrev pub DirBreaks : Geometry → List ℕ → ℕ → ℕ → ℕ → Type 0
DirBreaks g image dir rule block = BreaksFirstRule g dir (inode_of g image dir) (block_of g image) rule block

abbrev pub DirFails : Geometry → List ℕ → ℕ → ℕ → ℕ → Type 0
DirFails g image dir rule block = FailsRule g dir (inode_of g image dir) (block_of g image) rule block

-- Rules 10, 11 and 13 hold of the directory.
pub record HasInode (g : Geometry) (inode : List ℕ) (dir : ℕ) : Type 0 where
  pub core : HasCore inode dir g.meta_uuid
  pub forks : HasBothForks g inode dir
  pub lists : HasExtentLists g inode
