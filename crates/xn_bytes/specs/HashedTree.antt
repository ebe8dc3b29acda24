-- The blocks by whose hashes a directory in leaf or node form is looked up (`struct xfs_da3_blkinfo`,
-- `xfs_dir3_leaf_hdr`, `xfs_da3_node_hdr` and `xfs_dir3_free_hdr` of `xfs_da_format.h`).
use Rattle.std.specs.Prelude.{◌≡◌, ◌⊎◌, ℕ, zero, suc, ◌+◌, ◌-◌, ◌*◌, ◌/◌, ◌%◌, ◌≤◌, ◌==◌, ◌&&◌, nat_lt, not, if◌then◌else◌, Bool, List, [], ◌∷◌, length, slice_range, slice_index, count_by, filter, Option, Some, None}
use Rattle.std.specs.List.Sorted.{IsNonDecreasingBy}
use Rattle.xn_bytes.specs.Numbers.{number_at, little_number_at}
use Rattle.xn_bytes.specs.Checksum.{HasChecksum, checksum_with}
use Rattle.xn_bytes.specs.DataBlock.{LeafEntry, leaves_at}

-- where the file blocks of leaves and nodes begin, and those of free-index blocks
abbrev pub leaf_file_block : ℕ
leaf_file_block = 8388608

abbrev pub free_file_block : ℕ
free_file_block = 16777216

-- the magic numbers of the single leaf of leaf form, of a leaf of node form, and of a node
abbrev pub single_leaf_magic : ℕ
single_leaf_magic = 0x3df1

abbrev pub leaf_magic : ℕ
leaf_magic = 0x3dff

abbrev pub node_magic : ℕ
node_magic = 0x3ebe

-- `XDF3`
abbrev pub free_index_magic : ℕ
free_index_magic = 0x58444633

-- ---- a leaf of a directory by itself, wherever it stands

-- the leaf entries of a leaf, stale ones counted
abbrev pub dir_leaves : List ℕ → List LeafEntry
dir_leaves bytes = leaves_at (number_at 2 56 bytes) 64 bytes

-- a stale one has address 0
abbrev pub is_stale : LeafEntry → Bool
is_stale leaf = leaf.address == 0

abbrev pub is_live : LeafEntry → Bool
is_live leaf = not (is_stale leaf)

-- Whoever reads a single leaf looks at these, and compares place, uuid, owner and siblings himself: the magic number of
-- either kind, the checksum, at most 504 leaf entries sorted by hash, and the count of stale ones.
pub record IsDirLeaf (bytes : List ℕ) : Type 0 where
  pub whole : length bytes ≡ 4096
  pub is_magic : (number_at 2 8 bytes ≡ single_leaf_magic) ⊎ (number_at 2 8 bytes ≡ leaf_magic)
  pub checksum : HasChecksum bytes 12
  pub few : number_at 2 56 bytes ≤ 504
  pub stale : number_at 2 58 bytes ≡ count_by is_stale (dir_leaves bytes)
  pub sorted : IsNonDecreasingBy (λ leaf. leaf.hash) (dir_leaves bytes)

-- the bytes are a leaf whose entries are these, the stale ones left out
pub record DirLeafHolds (bytes : List ℕ) (live : List LeafEntry) : Type 0 where
  pub leaf : IsDirLeaf bytes
  pub are : live ≡ filter is_live (dir_leaves bytes)

-- the same, the stale ones among them
pub record DirLeafCounts (bytes : List ℕ) (leaves : List LeafEntry) : Type 0 where
  pub leaf : IsDirLeaf bytes
  pub are : leaves ≡ dir_leaves bytes

-- the hash of the last of leaf entries
abbrev pub last_leaf_hash : LeafEntry → List LeafEntry → ℕ
last_leaf_hash leaf [] = leaf.hash
last_leaf_hash leaf (next ∷ others) = last_leaf_hash next others

-- the first and the last hash of leaf entries
abbrev pub leaf_ends : List LeafEntry → Option (ℕ × ℕ)
leaf_ends [] = None
leaf_ends (leaf ∷ others) = Some (leaf.hash, last_leaf_hash leaf others)

-- the first and the last hash in a leaf, stale ones counted
abbrev pub dir_leaf_ends : List ℕ → Option (ℕ × ℕ)
dir_leaf_ends bytes = leaf_ends (dir_leaves bytes)

-- ---- nodes

-- an entry of a node: the greatest hash under a child, and the child's file block
pub record Child : Type 0 where
  pub hash : ℕ
  pub file_block : ℕ

abbrev pub children_at : ℕ → ℕ → List ℕ → List Child
children_at zero at bytes = []
children_at (suc count) at bytes = record { hash = number_at 4 at bytes; file_block = number_at 4 (at + 4) bytes } ∷ children_at count (at + 8) bytes

-- ---- bests

-- a data block without a best
abbrev pub no_best : ℕ
no_best = 0xffff

-- numbers of two bytes side by side
abbrev pub bests_at : ℕ → ℕ → List ℕ → List ℕ
bests_at zero at bytes = []
bests_at (suc count) at bytes = number_at 2 at bytes ∷ bests_at count (at + 2) bytes

-- The single leaf of leaf form holds these bests, those of the data blocks from 0 on, behind its leaf entries and in front
-- of their count. Whoever reads it by itself compares place, uuid, owner and siblings himself.
pub record LeafTailHolds (bytes bests : List ℕ) : Type 0 where
  pub whole : length bytes ≡ 4096
  pub is_magic : number_at 2 8 bytes ≡ single_leaf_magic
  pub checksum : HasChecksum bytes 12
  pub counted : number_at 4 4092 bytes ≡ length bests
  pub apart : 64 + 8 * number_at 2 56 bytes + 2 * length bests + 4 ≤ 4096
  pub are : bests ≡ bests_at (length bests) (4092 - 2 * length bests) bytes

-- A free-index block: the three fields by which it is known (the first sector of its place, the filesystem's uuid, the
-- directory's inode), its number among them, and the bests of the data blocks from 2,016 times this number on.
pub record FreeForm : Type 0 where
  pub place : ℕ
  pub uuid : List ℕ
  pub owner : ℕ
  pub index : ℕ
  pub bests : List ℕ

-- how many of bests are the best of a data block
abbrev pub used_among : List ℕ → ℕ
used_among bests = count_by (λ best. not (best == no_best)) bests

-- the bytes are a free-index block that holds this; those that are none aren't counted as used
pub record FreeHolds (bytes : List ℕ) (form : FreeForm) : Type 0 where
  pub whole : length bytes ≡ 4096
  pub is_magic : number_at 4 0 bytes ≡ free_index_magic
  pub checksum : HasChecksum bytes 4
  pub place : form.place ≡ number_at 8 8 bytes
  pub uuid : form.uuid ≡ slice_range bytes 24 40
  pub own_inode : form.owner ≡ number_at 8 40 bytes
  pub first : number_at 4 48 bytes ≡ 2016 * form.index
  pub few : length form.bests ≤ 2016
  pub valid : number_at 4 52 bytes ≡ length form.bests
  pub used : number_at 4 56 bytes ≡ used_among form.bests
  pub are : form.bests ≡ bests_at (length form.bests) 64 bytes

-- the bests that bytes say are valid
abbrev pub bests_of : List ℕ → List ℕ
bests_of bytes = bests_at (number_at 4 52 bytes) 64 bytes

-- The first place at which the 4,096 bytes fail to be a free-index block: magic, checksum, a first data block that is no
-- multiple of 2,016, more valid bests than it has place for, and a count of used ones that is another.
unfoldable pub free_fault : List ℕ → Option ℕ
free_fault bytes =
    if not (number_at 4 0 bytes == free_index_magic) then Some 0
    else if not (little_number_at 4 4 bytes == checksum_with bytes 4) then Some 4
    else if not (number_at 4 48 bytes % 2016 == 0) then Some 48
    else if nat_lt 2016 (number_at 4 52 bytes) then Some 52
    else if not (number_at 4 56 bytes == used_among (bests_of bytes)) then Some 56
    else None

-- the free-index block that stands in bytes
unfoldable pub free_in : List ℕ → FreeForm
free_in bytes = record {
  place = number_at 8 8 bytes;
  uuid = slice_range bytes 24 40;
  owner = number_at 8 40 bytes;
  index = number_at 4 48 bytes / 2016;
  bests = bests_of bytes;
}

-- the best of a slot, none past the valid ones
abbrev pub best_at : List ℕ → ℕ → Option ℕ
best_at bests slot =
    if nat_lt slot (length bests) && not (slice_index bests slot == no_best) then Some (slice_index bests slot) else None
