-- The superblock in sector 0 of an image (`struct xfs_dsb` of `xfs_format.h`), what of it this project accepts,
-- and the places of blocks and inodes that follow from it.
use Rattle.std.specs.Prelude.{◌≡◌, ◌≢◌, ◌⊎◌, ℕ, ◌+◌, ◌-◌, ◌*◌, ◌/◌, ◌%◌, ◌^◌, ◌<◌, ◌≤◌, Bool, IsTrue, ◌==◌, if◌then◌else◌, List, [], ◌∷◌, length, take, slice_range, Any, bit_and}
use Rattle.xn_bytes.specs.Numbers.{number_at}
use Rattle.xn_bytes.specs.Checksum.{HasChecksum}

-- What later reading needs of a superblock: sizes in blocks, numbers of blocks and inodes, and the two uuids.
pub record Geometry : Type 0 where
  pub data_blocks : ℕ
  pub ag_blocks : ℕ
  pub ag_count : ℕ
  pub ag_block_log : ℕ
  pub log_start : ℕ
  pub log_blocks : ℕ
  pub root : ℕ
  pub sparse : Bool
  pub uuid : List ℕ
  pub meta_uuid : List ℕ
  pub own_inodes : List ℕ

-- the bits of the incompatible features
abbrev pub ftype_bit : ℕ
ftype_bit = 1

abbrev pub sparse_inodes_bit : ℕ
sparse_inodes_bit = 2

abbrev pub meta_uuid_bit : ℕ
meta_uuid_bit = 4

abbrev pub parent_bit : ℕ
parent_bit = 128

-- a feature is set
abbrev pub has_feature : List ℕ → ℕ → Bool
has_feature bytes bit = bit_and (number_at 4 216 bytes) bit == bit

-- the fields at their places
abbrev pub geometry_of : List ℕ → Geometry
geometry_of bytes = record {
  data_blocks = number_at 8 8 bytes;
  ag_blocks = number_at 4 84 bytes;
  ag_count = number_at 4 88 bytes;
  ag_block_log = number_at 1 124 bytes;
  log_start = number_at 8 48 bytes;
  log_blocks = number_at 4 96 bytes;
  root = number_at 8 56 bytes;
  sparse = has_feature bytes sparse_inodes_bit;
  uuid = slice_range bytes 32 48;
  meta_uuid = if has_feature bytes meta_uuid_bit then slice_range bytes 248 264 else slice_range bytes 32 48;
  own_inodes = number_at 8 64 bytes ∷ number_at 8 72 bytes ∷ number_at 8 160 bytes ∷ number_at 8 168 bytes ∷ number_at 8 232 bytes ∷ [];
}

-- ---- places

-- the group that a block number names
abbrev pub group_of : Geometry → ℕ → ℕ
group_of g block = block / 2 ^ g.ag_block_log

-- the block within its group
abbrev pub block_in_group : Geometry → ℕ → ℕ
block_in_group g block = block % 2 ^ g.ag_block_log

-- the block counted through all groups
abbrev pub linear_block : Geometry → ℕ → ℕ
linear_block g block = group_of g block * g.ag_blocks + block_in_group g block

-- a block number in range
pub record IsBlock (g : Geometry) (block : ℕ) : Type 0 where
  pub group : group_of g block < g.ag_count
  pub within : block_in_group g block < g.ag_blocks
  pub in_data : linear_block g block < g.data_blocks

-- the first of the 8 sectors of a block
abbrev pub sector_of_block : Geometry → ℕ → ℕ
sector_of_block g block = linear_block g block * 8

-- an inode number is its block's number times 8 and its place in that block
abbrev pub IsInode : Geometry → ℕ → Type 0
IsInode g ino = IsBlock g (ino / 8)

-- the sector of an inode
abbrev pub sector_of_inode : Geometry → ℕ → ℕ
sector_of_inode g ino = sector_of_block g (ino / 8) + ino % 8

-- one of the superblock's own inodes (bitmap, summary, quota): a field of 0 or of all ones names none
pub record IsOwnInode (g : Geometry) (ino : ℕ) : Type 0 where
  pub named : Any (λ own. own ≡ ino) g.own_inodes
  pub not_zero : ino ≢ 0
  pub not_none : ino ≢ 2 ^ 64 - 1

-- ---- the accepted fields, numbered in the order in which they are looked at

-- field 1: there is a whole sector, and it begins `XFSB`
pub record HasMagic (bytes : List ℕ) (sectors : ℕ) : Type 0 where
  pub sector : 1 ≤ sectors
  pub whole : 512 ≤ length bytes
  pub magic : number_at 4 0 bytes ≡ 0x58465342

-- field 2: the checksum at 224 is right
abbrev pub HasRightChecksum : List ℕ → Type 0
HasRightChecksum bytes = HasChecksum (take 512 bytes) 224

-- field 3: version 5 in the low four bits, no case folding (0x4000)
pub record HasVersion (bytes : List ℕ) : Type 0 where
  pub version : number_at 2 100 bytes % 16 ≡ 5
  pub no_folding : number_at 2 100 bytes / 0x4000 % 2 ≡ 0

-- field 4: blocks of 4,096 bytes
abbrev pub HasBlockSize : List ℕ → Type 0
HasBlockSize bytes = number_at 4 4 bytes ≡ 4096

-- field 5: sectors of 512 bytes
abbrev pub HasSectorSize : List ℕ → Type 0
HasSectorSize bytes = number_at 2 102 bytes ≡ 512

-- field 6: inodes of 512 bytes, 8 in a block
pub record HasInodeSize (bytes : List ℕ) : Type 0 where
  pub size : number_at 2 104 bytes ≡ 512
  pub per_block : number_at 2 106 bytes ≡ 8
  pub per_block_log : number_at 1 123 bytes ≡ 3

-- field 7: the groups hold the data blocks, the last group perhaps fewer
pub record HasGroups (g : Geometry) : Type 0 where
  pub some : 1 ≤ g.ag_count
  pub large : 64 ≤ g.ag_blocks
  pub log : g.ag_block_log ≤ 31
  pub fits_log : g.ag_blocks ≤ 2 ^ g.ag_block_log
  pub needs_log : 2 ^ g.ag_block_log < 2 * g.ag_blocks
  pub last_used : (g.ag_count - 1) * g.ag_blocks < g.data_blocks
  pub all_hold : g.data_blocks ≤ g.ag_count * g.ag_blocks
  pub few : g.data_blocks < 2 ^ 48

-- field 8: directory blocks of one block
abbrev pub HasDirectoryBlocks : List ℕ → Type 0
HasDirectoryBlocks bytes = number_at 1 192 bytes ≡ 0

-- field 9: a log of 512 to 524,288 blocks within one group, with log sectors of 512 bytes
pub record HasLog (bytes : List ℕ) (g : Geometry) : Type 0 where
  pub not_zero : g.log_start ≢ 0
  pub least : 512 ≤ g.log_blocks
  pub most : g.log_blocks ≤ 524288
  pub group : group_of g g.log_start < g.ag_count
  pub one_group : block_in_group g g.log_start + g.log_blocks ≤ g.ag_blocks
  pub in_data : linear_block g g.log_start + g.log_blocks ≤ g.data_blocks
  pub sector_size : (number_at 2 194 bytes ≡ 0) ⊎ (number_at 2 194 bytes ≡ 512)

-- field 10: of the incompatible features only those of 0xef (so not NEEDSREPAIR), FTYPE and PARENT among them
pub record HasIncompat (bytes : List ℕ) : Type 0 where
  pub known : bit_and (number_at 4 216 bytes) 0xef ≡ number_at 4 216 bytes
  pub ftype : IsTrue (has_feature bytes ftype_bit)
  pub parent : IsTrue (has_feature bytes parent_bit)

-- field 11: of the read-only features only those of 0x0f; the log's feature word is 0 or 1
pub record HasReadOnlyCompat (bytes : List ℕ) : Type 0 where
  pub known : number_at 4 212 bytes < 16
  pub log_word : number_at 4 220 bytes < 2

-- field 12: the root is an inode place in range
abbrev pub HasRoot : Geometry → Type 0
HasRoot g = IsInode g g.root

-- field 13: the image has all its blocks
abbrev pub HasLength : Geometry → ℕ → Type 0
HasLength g sectors = 8 * g.data_blocks ≤ sectors

-- every field is accepted in the bytes of sector 0 of an image of so many sectors
pub record IsSuperblock (bytes : List ℕ) (sectors : ℕ) : Type 0 where
  pub magic : HasMagic bytes sectors
  pub checksum : HasRightChecksum bytes
  pub version : HasVersion bytes
  pub block_size : HasBlockSize bytes
  pub sector_size : HasSectorSize bytes
  pub inode_size : HasInodeSize bytes
  pub groups : HasGroups (geometry_of bytes)
  pub directory_blocks : HasDirectoryBlocks bytes
  pub log : HasLog bytes (geometry_of bytes)
  pub incompat : HasIncompat bytes
  pub read_only_compat : HasReadOnlyCompat bytes
  pub root : HasRoot (geometry_of bytes)
  pub length : HasLength (geometry_of bytes) sectors

-- `fails` is the number of the first of several facts that doesn't hold: it is this one's number, or this one holds
-- and it is that of one of the rest.
abbrev pub OrElse : ℕ → ℕ → Type 0 → Type 0 → Type 0
OrElse fails number Holds Rest = ((fails ≡ number) × ¬ Holds) ⊎ (Holds × Rest)

-- the least field that is not accepted
abbrev pub FirstFieldBroken : List ℕ → ℕ → ℕ → Type 0
FirstFieldBroken bytes sectors fails =
    OrElse fails 1 (HasMagic bytes sectors)
    (OrElse fails 2 (HasRightChecksum bytes)
    (OrElse fails 3 (HasVersion bytes)
    (OrElse fails 4 (HasBlockSize bytes)
    (OrElse fails 5 (HasSectorSize bytes)
    (OrElse fails 6 (HasInodeSize bytes)
    (OrElse fails 7 (HasGroups (geometry_of bytes))
    (OrElse fails 8 (HasDirectoryBlocks bytes)
    (OrElse fails 9 (HasLog bytes (geometry_of bytes))
    (OrElse fails 10 (HasIncompat bytes)
    (OrElse fails 11 (HasReadOnlyCompat bytes)
    (OrElse fails 12 (HasRoot (geometry_of bytes))
    (OrElse fails 13 (HasLength (geometry_of bytes) sectors) ⊥))))))))))))

-- What a geometry that was accepted keeps: its sizes, its log's place and its root are accepted.
pub record IsGeometry (g : Geometry) : Type 0 where
  pub groups : HasGroups g
  pub log_not_zero : g.log_start ≢ 0
  pub log_group : group_of g g.log_start < g.ag_count
  pub log_in_group : block_in_group g g.log_start + g.log_blocks ≤ g.ag_blocks
  pub log_in_data : linear_block g g.log_start + g.log_blocks ≤ g.data_blocks
  pub log_least : 512 ≤ g.log_blocks
  pub log_most : g.log_blocks ≤ 524288
  pub root : IsInode g g.root
