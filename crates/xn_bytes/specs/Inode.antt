-- Inodes (`struct xfs_dinode` of `xfs_format.h`): the core's fields at their places, and the two forks behind it.
use Rattle.std.specs.Prelude.{◌≡◌, ◌≢◌, ◌⊎◌, ℕ, ◌+◌, ◌*◌, ◌/◌, ◌%◌, ◌<◌, ◌≤◌, Bool, ◌==◌, if◌then◌else◌, List, length, drop, slice_range, Some, IsSome}
use Rattle.xn_bytes.specs.declared.kind.Kind.{Kind}
use Rattle.xn_bytes.specs.declared.kind.Kind.TheVariants.{Dir}
use Rattle.xn_bytes.specs.Numbers.{number_at, sector_of}
use Rattle.xn_bytes.specs.Checksum.{HasChecksum}
use Rattle.xn_bytes.specs.Kinds.{kind_of_mode}
use Rattle.xn_bytes.specs.Superblock.{Geometry, sector_of_inode}

-- the format of a fork that holds the bytes themselves
abbrev pub local_format : ℕ
local_format = 1

-- the format of a fork that holds a list of extents
abbrev pub extents_format : ℕ
extents_format = 2

-- The fields of an inode's core. `permissions` are the mode's low 12 bits, `fork_offset` is in units of 8 bytes, and
-- `large_counts` says that the extent counts have their wide fields (NREXT64, bit 4 of the flags at 120).
pub record CoreFields : Type 0 where
  pub kind : Kind
  pub permissions : ℕ
  pub nlink : ℕ
  pub size : ℕ
  pub nblocks : ℕ
  pub generation : ℕ
  pub fork_offset : ℕ
  pub data_format : ℕ
  pub attr_format : ℕ
  pub large_counts : Bool
  pub data_extents : ℕ
  pub attr_extents : ℕ

-- bit 4 of the flags at 120
abbrev pub has_large_counts : List ℕ → Bool
has_large_counts inode = number_at 8 120 inode / 16 % 2 == 1

-- the core that stands at the front of an inode's bytes has these fields
pub record CoreHolds (inode : List ℕ) (core : CoreFields) : Type 0 where
  pub kind : kind_of_mode (number_at 2 2 inode) ≡ Some core.kind
  pub permissions : core.permissions ≡ number_at 2 2 inode % 4096
  pub nlink : core.nlink ≡ number_at 4 16 inode
  pub size : core.size ≡ number_at 8 56 inode
  pub nblocks : core.nblocks ≡ number_at 8 64 inode
  pub generation : core.generation ≡ number_at 4 92 inode
  pub fork_offset : core.fork_offset ≡ number_at 1 82 inode
  pub data_format : core.data_format ≡ number_at 1 5 inode
  pub attr_format : core.attr_format ≡ number_at 1 83 inode
  pub large_counts : core.large_counts ≡ has_large_counts inode
  pub data_extents : core.data_extents ≡ (if has_large_counts inode then number_at 8 24 inode else number_at 4 76 inode)
  pub attr_extents : core.attr_extents ≡ (if has_large_counts inode then number_at 4 76 inode else number_at 2 80 inode)

-- rule 10: magic, version 3, checksum, own number and uuid. Bytes that are too few for a core fail it
pub record HasCore (inode : List ℕ) (number : ℕ) (uuid : List ℕ) : Type 0 where
  pub whole : 176 ≤ length inode
  pub magic : number_at 2 0 inode ≡ 0x494e
  pub version : number_at 1 4 inode ≡ 3
  pub checksum : HasChecksum inode 100
  pub own_number : number_at 8 152 inode ≡ number
  pub own_uuid : slice_range inode 160 176 ≡ uuid

-- a format that a directory's data fork or an attribute fork may have
abbrev pub IsListFormat : ℕ → Type 0
IsListFormat format = (format ≡ local_format) ⊎ (format ≡ extents_format)

-- Rule 11, but for whether an attribute fork has to be there, which depends on whether the inode is the root: the
-- mode has a kind, the data fork begins within the inode and ends before its end, a directory's data fork and an
-- attribute fork that is there are local or extents.
pub record HasForks (inode : List ℕ) : Type 0 where
  pub kind : IsSome (kind_of_mode (number_at 2 2 inode))
  pub offset : 176 + 8 * number_at 1 82 inode < length inode
  pub directory : kind_of_mode (number_at 2 2 inode) ≡ Some Dir → IsListFormat (number_at 1 5 inode)
  pub attribute : number_at 1 82 inode ≢ 0 → IsListFormat (number_at 1 83 inode)

-- the whole of rule 11
pub record HasBothForks (g : Geometry) (inode : List ℕ) (number : ℕ) : Type 0 where
  pub forks : HasForks inode
  pub attribute_there : number ≢ g.root → number_at 1 82 inode ≢ 0

-- where the data fork ends: with no fork offset it has all the inode's bytes from 176 on
abbrev pub data_fork_end : List ℕ → ℕ
data_fork_end inode = if number_at 1 82 inode == 0 then length inode else 176 + 8 * number_at 1 82 inode

-- the bytes of the data fork
abbrev pub data_fork_of : List ℕ → List ℕ
data_fork_of inode = slice_range inode 176 (data_fork_end inode)

-- the bytes of the attribute fork, none where it isn't there
abbrev pub attr_fork_of : List ℕ → List ℕ
attr_fork_of inode = drop (data_fork_end inode) inode

-- the bytes of an inode of an image
abbrev pub inode_of : Geometry → List ℕ → ℕ → List ℕ
inode_of g image ino = sector_of image (sector_of_inode g ino)
