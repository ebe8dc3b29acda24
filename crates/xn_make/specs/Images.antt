-- The images that are made for demonstrations and tests: one group of blocks of 8 sectors with the log in its last 512.
-- The small ones have 576 blocks, and a root directory in short form or in block form.
use Rattle.std.specs.Prelude.{◌≡◌, ◌≢◌, ℕ, ◌+◌, ◌-◌, ◌*◌, ◌<◌, ◌≤◌, false, List, [], ◌∷◌, length, take, slice_range, replicate, codes}
use Rattle.xn_make.specs.Directories.{IsDirectoryBlock}
use Rattle.xn_bytes.specs.Entries.{Entry}
use Rattle.xn_make.specs.Fixed.{small_uuid, no_attributes}
use Rattle.xn_make.specs.SpelledInodes.{IsInodeSpelled, directory_numbers, file_numbers}
use Rattle.xn_make.specs.SpelledSuperblocks.{IsSuperblockSpelled, block_bits}
use Rattle.xn_bytes.specs.declared.kind.Kind.TheVariants.{Dir, Reg}
use Rattle.xn_bytes.specs.Numbers.{number_at, sector_of}
use Rattle.xn_bytes.specs.Superblock.{Geometry, IsSuperblock, geometry_of, ftype_bit, parent_bit}
use Rattle.xn_bytes.specs.Inode.{CoreFields, CoreHolds, HasCore, HasForks, data_fork_of, attr_fork_of, local_format, extents_format}
use Rattle.xn_bytes.specs.Extents.{AreRecords}
use Rattle.xn_bytes.specs.DirectoryForms.{data_runs_of}
use Rattle.xn_bytes.specs.Directory.{HasShortSize, short_bytes_of}

-- how many sectors an image has
abbrev pub small_sectors : ℕ
small_sectors = 4608

-- the sizes and places, in blocks, of an image with so many blocks in front of its log; of the own inodes it has none
abbrev pub image_geometry : ℕ → Geometry
image_geometry log_start = record {
  data_blocks = log_start + 512;
  ag_blocks = log_start + 512;
  ag_count = 1;
  ag_block_log = block_bits (log_start + 512);
  log_start = log_start;
  log_blocks = 512;
  root = 128;
  sparse = false;
  uuid = small_uuid;
  meta_uuid = small_uuid;
  own_inodes = replicate 5 0;
}

-- Sector 0 of an image with so many blocks in front of its log: an accepted superblock with that geometry, and of the
-- incompatible features the two that have to be there.
pub record IsImageSuperblock (bytes : List ℕ) (log_start : ℕ) : Type 0 where
  pub whole : length bytes ≡ 512
  pub accepted : IsSuperblock bytes (8 * (log_start + 512))
  pub geometry : geometry_of bytes ≡ image_geometry log_start
  pub features : number_at 4 216 bytes ≡ ftype_bit + parent_bit
  pub spelled : IsSuperblockSpelled bytes log_start

-- that of a small image
abbrev pub IsSmallSuperblock : List ℕ → Type 0
IsSmallSuperblock bytes = IsImageSuperblock bytes 64

-- what the core says of a directory with so many links whose short form has so many bytes: no blocks, and both forks in the
-- inode, the second 192 bytes behind the first
abbrev pub directory_core : ℕ → ℕ → ℕ → CoreFields
directory_core generation links size = record {
  kind = Dir;
  permissions = 0;
  nlink = links;
  size = size;
  nblocks = 0;
  generation = generation;
  fork_offset = 24;
  data_format = local_format;
  attr_format = local_format;
  large_counts = false;
  data_extents = 0;
  attr_extents = 0;
}

-- a directory's inode of a generation with so many links and that short form, and with no attributes
pub record IsShortDirectory (inode : List ℕ) (number generation links : ℕ) (form : List ℕ) : Type 0 where
  pub core : HasCore inode number small_uuid
  pub fields : CoreHolds inode (directory_core generation links (length form))
  pub forks : HasForks inode
  pub size : HasShortSize inode
  pub short_bytes : short_bytes_of inode ≡ form
  pub attributes : take 4 (attr_fork_of inode) ≡ no_attributes
  pub spelled : IsInodeSpelled inode (directory_numbers number generation links (length form)) form

-- one of the first generation
abbrev pub IsSmallDirectory : List ℕ → ℕ → ℕ → List ℕ → Type 0
IsSmallDirectory inode number links form = IsShortDirectory inode number 1 links form

-- what the core says of a directory in block form: two links, one block, which its one extent maps
abbrev pub block_directory_core : ℕ → CoreFields
block_directory_core number = record {
  kind = Dir;
  permissions = 0;
  nlink = 2;
  size = 4096;
  nblocks = 1;
  generation = number - 127;
  fork_offset = 24;
  data_format = extents_format;
  attr_format = local_format;
  large_counts = false;
  data_extents = 1;
  attr_extents = 0;
}

-- a directory's inode in block form, with its block, and with no attributes
pub record IsBlockDirectoryInode (inode : List ℕ) (number block : ℕ) : Type 0 where
  pub core : HasCore inode number small_uuid
  pub fields : CoreHolds inode (block_directory_core number)
  pub forks : HasForks inode
  pub records : AreRecords 1 0 (data_fork_of inode)
  pub runs : data_runs_of inode ≡ record { file_block = 0; block = block; count = 1 } ∷ []
  pub attributes : take 4 (attr_fork_of inode) ≡ no_attributes

-- what the core says of a regular file with so many links and no blocks
abbrev pub file_core : ℕ → ℕ → CoreFields
file_core generation links = record {
  kind = Reg;
  permissions = 0;
  nlink = links;
  size = 0;
  nblocks = 0;
  generation = generation;
  fork_offset = 24;
  data_format = extents_format;
  attr_format = local_format;
  large_counts = false;
  data_extents = 0;
  attr_extents = 0;
}

-- a regular file's inode of a generation with so many links and no blocks, and with no attributes
pub record IsEmptyFile (inode : List ℕ) (number generation links : ℕ) : Type 0 where
  pub core : HasCore inode number small_uuid
  pub fields : CoreHolds inode (file_core generation links)
  pub forks : HasForks inode
  pub attributes : take 4 (attr_fork_of inode) ≡ no_attributes
  pub spelled : IsInodeSpelled inode (file_numbers number generation links) []

-- one with one link, whose generation is counted from the root's
abbrev pub IsSmallRegular : List ℕ → ℕ → Type 0
IsSmallRegular inode number = IsEmptyFile inode number (number - 127) 1

-- so many sectors of zeros
pub record IsBlank (image : List ℕ) (sectors : ℕ) : Type 0 where
  pub whole : length image ≡ 512 * sectors
  pub zeros : (sector : ℕ) → sector < sectors → sector_of image sector ≡ replicate 512 0

-- the image: its superblock, its root directory with that short form, and zeros elsewhere
pub record IsSmallImage (image form : List ℕ) : Type 0 where
  pub whole : length image ≡ 512 * small_sectors
  pub superblock : IsSmallSuperblock (sector_of image 0)
  pub root : IsSmallDirectory (sector_of image 128) 128 2 form
  pub zeros : (sector : ℕ) → sector < small_sectors → sector ≢ 0 → sector ≢ 128 → sector_of image sector ≡ replicate 512 0

-- the entry of a regular file
abbrev pub file : List ℕ → ℕ → ℕ → Entry
file name ino position = record { name = name; ino = ino; kind = Reg; position = position }

-- `entry-0001` to `entry-0011`, which name 144 to 154; each takes 24 bytes
abbrev pub eleven_files : List Entry
eleven_files =
    file (codes "entry-0001") 144 96 ∷ (
    file (codes "entry-0002") 145 120 ∷ (
    file (codes "entry-0003") 146 144 ∷ (
    file (codes "entry-0004") 147 168 ∷ (
    file (codes "entry-0005") 148 192 ∷ (
    file (codes "entry-0006") 149 216 ∷ (
    file (codes "entry-0007") 150 240 ∷ (
    file (codes "entry-0008") 151 264 ∷ (
    file (codes "entry-0009") 152 288 ∷ (
    file (codes "entry-0010") 153 312 ∷ (
    file (codes "entry-0011") 154 336 ∷ []))))))))))

-- all the root's entries
unfoldable pub root_entries : List Entry
root_entries =
    record { name = 46 ∷ []; ino = 128; kind = Dir; position = 64 } ∷ (record { name = 46 ∷ 46 ∷ []; ino = 128; kind = Dir; position = 80 } ∷ eleven_files)

-- the block of this root directory: in block 40, with a free region of 3,624 bytes from 360 on
abbrev pub IsRootBlock : List ℕ → Type 0
IsRootBlock bytes = IsDirectoryBlock bytes 320 128 root_entries (record { place = 360; size = 3624 })

-- the regular files from 144 up to a number have been put, and no other sector is changed
pub record HasFiles (end : ℕ) (old new : List ℕ) : Type 0 where
  pub files : (number : ℕ) → 144 ≤ number → number < end → IsSmallRegular (sector_of new number) number
  pub others : (sector : ℕ) → sector < small_sectors → (144 ≤ sector → sector < end → ⊥) → sector_of new sector ≡ sector_of old sector

-- a directory in short form with no entries and parent 128
abbrev pub empty_form : List ℕ
empty_form = 0 ∷ 0 ∷ 0 ∷ 0 ∷ 0 ∷ 128 ∷ []

-- the inodes of an image in block form have been put, and sector 0 is not changed
pub record HasInodes (old new : List ℕ) : Type 0 where
  pub superblock : sector_of new 0 ≡ sector_of old 0
  pub root : IsBlockDirectoryInode (sector_of new 128) 128 40
  pub detached : IsSmallDirectory (sector_of new 129) 129 0 empty_form
  pub files : (number : ℕ) → 144 ≤ number → number < 155 → IsSmallRegular (sector_of new number) number

-- The image in block form: its superblock, its root directory in block 40, whose one block has a leaf entry for each of
-- the eleven entries that name regular files, `.` and `..`; these files; and a directory without a link that no entry names.
pub record IsBlockImage (image : List ℕ) : Type 0 where
  pub whole : length image ≡ 512 * small_sectors
  pub superblock : IsSmallSuperblock (sector_of image 0)
  pub root : IsBlockDirectoryInode (sector_of image 128) 128 40
  pub detached : IsSmallDirectory (sector_of image 129) 129 0 empty_form
  pub files : (number : ℕ) → 144 ≤ number → number < 155 → IsSmallRegular (sector_of image number) number
  pub block : IsRootBlock (slice_range image 163840 167936)
