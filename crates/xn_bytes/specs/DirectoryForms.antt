-- The forms of directories by their inodes, and what a directory in short or block form holds. Entries are read from the
-- short form or from the data block alone; the hashes by which they are found stand beside them.
use Rattle.std.specs.Prelude.{◌≡◌, ◌≢◌, ℕ, ◌+◌, ◌*◌, ◌/◌, ◌<◌, Bool, true, not, if◌then◌else◌, List, [], ◌∷◌, map, filter, count_by, All, IsPermutation, Some, None, IsSome}
use Rattle.std.specs.List.Sorted.{IsNonDecreasingBy}
use Rattle.xn_bytes.specs.declared.kind.Kind.TheVariants.{Dir}
use Rattle.xn_bytes.specs.Numbers.{number_at}
use Rattle.xn_bytes.specs.Hashes.{name_hash_of}
use Rattle.xn_bytes.specs.Kinds.{kind_of_mode}
use Rattle.xn_bytes.specs.Superblock.{Geometry, sector_of_block}
use Rattle.xn_bytes.specs.Blocks.{IsHome}
use Rattle.xn_bytes.specs.Inode.{data_fork_of, attr_fork_of, local_format, extents_format, has_large_counts}
use Rattle.xn_bytes.specs.Extents.{Run, AreRecords, runs_in, mapped}
use Rattle.xn_bytes.specs.Entries.{Entry}
use Rattle.xn_bytes.specs.ShortDirectory.{ShortForm, ShortHolds}
use Rattle.xn_bytes.specs.DataBlock.{DataForm, DataHolds, LeafEntry, entries_among}
use Rattle.xn_bytes.specs.Directory.{HasShortSize, short_bytes_of}
use Rattle.xn_bytes.specs.HashedTree.{leaf_file_block, is_stale}

-- ---- the blocks of a fork

-- how many extents the data fork and the attribute fork have, by the core
abbrev pub data_extents_of : List ℕ → ℕ
data_extents_of inode = if has_large_counts inode then number_at 8 24 inode else number_at 4 76 inode

abbrev pub attr_extents_of : List ℕ → ℕ
attr_extents_of inode = if has_large_counts inode then number_at 4 76 inode else number_at 2 80 inode

-- the runs of the data fork
abbrev pub data_runs_of : List ℕ → List Run
data_runs_of inode = runs_in (data_extents_of inode) (data_fork_of inode)

-- each block of each run is in range, outside the log, and not the first of its group
abbrev pub AreHome : Geometry → List Run → Type 0
AreHome g runs = All (λ run. (k : ℕ) → k < run.count → IsHome g (run.block + k)) runs

-- the bytes of a fork are a list of so many extents, of blocks that a fork may map
pub record IsExtentList (g : Geometry) (count : ℕ) (fork : List ℕ) : Type 0 where
  pub records : AreRecords count 0 fork
  pub home : AreHome g (runs_in count fork)

-- the data fork is a list of extents, where it is such; and the attribute fork, where it is there and such
abbrev pub HasDataList : Geometry → List ℕ → Type 0
HasDataList g inode = number_at 1 5 inode ≡ extents_format → IsExtentList g (data_extents_of inode) (data_fork_of inode)

abbrev pub HasAttrList : Geometry → List ℕ → Type 0
HasAttrList g inode = number_at 1 82 inode ≢ 0 → number_at 1 83 inode ≡ extents_format → IsExtentList g (attr_extents_of inode) (attr_fork_of inode)

-- rule 13 of a directory: the lists of extents of its two forks
pub record HasExtentLists (g : Geometry) (inode : List ℕ) : Type 0 where
  pub of_data : HasDataList g inode
  pub of_attributes : HasAttrList g inode

-- rule 13 of any inode: the data fork is looked at only where it is a directory's
pub record HasForkLists (g : Geometry) (inode : List ℕ) : Type 0 where
  pub of_data : kind_of_mode (number_at 2 2 inode) ≡ Some Dir → HasDataList g inode
  pub of_attributes : HasAttrList g inode

-- ---- forms

-- a file block from 0 on, below which data blocks are numbered
abbrev pub IsDataNumber : ℕ → Type 0
IsDataNumber file_block = file_block < leaf_file_block

-- block form: only file block 0 is mapped
pub record IsBlockForm (runs : List Run) (block : ℕ) : Type 0 where
  pub first : mapped runs 0 ≡ Some block
  pub alone : (file_block : ℕ) → file_block ≢ 0 → mapped runs file_block ≡ None

-- leaf form: file block 8,388,608 is the greatest that is mapped
pub record IsLeafForm (runs : List Run) : Type 0 where
  pub leaf : IsSome (mapped runs leaf_file_block)
  pub last : (file_block : ℕ) → leaf_file_block < file_block → mapped runs file_block ≡ None

-- the greatest mapped data block
pub record IsGreatestData (runs : List Run) (number : ℕ) : Type 0 where
  pub is_data : IsDataNumber number
  pub is_mapped : IsSome (mapped runs number)
  pub last : (file_block : ℕ) → number < file_block → IsDataNumber file_block → mapped runs file_block ≡ None

-- rule 15 of a directory in blocks: its size reaches to the end of the greatest mapped data block
abbrev pub HasBlocksSize : List ℕ → Type 0
HasBlocksSize inode = (number : ℕ) × IsGreatestData (data_runs_of inode) number × (number_at 8 56 inode ≡ 4096 * (number + 1))

-- ---- data blocks

-- A data block of the directory, in the place that it names, with the filesystem's uuid and its owner.
pub record IsDataBlockOf (g : Geometry) (dir : ℕ) (is_block_form : Bool) (block : ℕ) (bytes : List ℕ) (form : DataForm) : Type 0 where
  pub holds : DataHolds bytes form
  pub magic : form.is_block_form ≡ is_block_form
  pub place : form.place ≡ sector_of_block g block
  pub uuid : form.uuid ≡ g.meta_uuid
  pub owner : form.owner ≡ dir

-- `.` stands at 64 and `..` at 80, both of kind directory, in front of the other entries. The inode of the second is
-- the dotdot.
pub record HasDots (all others : List Entry) (dotdot : ℕ) : Type 0 where
  pub dot : Entry
  pub parent : Entry
  pub first : all ≡ dot ∷ parent ∷ others
  pub dot_name : dot.name ≡ 46 ∷ []
  pub parent_name : parent.name ≡ 46 ∷ 46 ∷ []
  pub dot_kind : dot.kind ≡ Dir
  pub parent_kind : parent.kind ≡ Dir
  pub dot_place : dot.position ≡ 64
  pub parent_place : parent.position ≡ 80
  pub inode : dotdot ≡ parent.ino

-- ---- the index

-- the leaf entry of an entry
abbrev pub leaf_of : Entry → LeafEntry
leaf_of entry = record { hash = name_hash_of entry.name; address = entry.position / 8 }

-- leaf entries in the order of their hashes, stale ones too: none has a greater hash than one behind it
abbrev pub AreSorted : List LeafEntry → Type 0
AreSorted leaves = IsNonDecreasingBy (λ leaf. leaf.hash) leaves

-- The leaf entries that are not stale are those of all entries, dot and dotdot among them, each as often.
abbrev pub IsIndexOf : List LeafEntry → List Entry → Type 0
IsIndexOf leaves entries = IsPermutation (map leaf_of entries) (filter (λ leaf. not (is_stale leaf)) leaves)

-- rule 18 of block form: the leaf entries are sorted, and the count of stale ones is right
pub record HasTail (form : DataForm) : Type 0 where
  pub sorted : AreSorted form.leaves
  pub stale : form.stale ≡ count_by is_stale form.leaves

-- ---- short form

pub record HoldsShort (inode : List ℕ) (entries : List Entry) (dotdot : ℕ) : Type 0 where
  pub is_local : number_at 1 5 inode ≡ local_format
  pub size : HasShortSize inode
  pub form : ShortForm
  pub holds : ShortHolds (short_bytes_of inode) form
  pub entries_are : entries ≡ form.entries
  pub dotdot_is : dotdot ≡ form.parent

-- ---- block form

-- what the first block of a directory in block form holds, by its bytes
pub record HoldsFirst (g : Geometry) (dir block : ℕ) (bytes : List ℕ) (form : DataForm) (entries : List Entry) (dotdot : ℕ) : Type 0 where
  pub data_block : IsDataBlockOf g dir true block bytes form
  pub dots : HasDots (entries_among form.regions) entries dotdot

pub record HoldsBlock (g : Geometry) (dir : ℕ) (inode : List ℕ) (blocks : ℕ → List ℕ) (entries : List Entry) (dotdot : ℕ) : Type 0 where
  pub is_extents : number_at 1 5 inode ≡ extents_format
  pub block : ℕ
  pub alone : IsBlockForm (data_runs_of inode) block
  pub size : HasBlocksSize inode
  pub form : DataForm
  pub first : HoldsFirst g dir block (blocks block) form entries dotdot
  pub tail : HasTail form
  pub index : IsIndexOf form.leaves (entries_among form.regions)
