-- Blocks of an image: the bytes that it shows at their places, and the image with other bytes there.
use Rattle.std.specs.Prelude.{◌≢◌, ℕ, ◌+◌, ◌*◌, ◌<◌, ◌≤◌, List, slice_range}
use Rattle.xn_bytes.specs.Numbers.{overlaid}
use Rattle.xn_bytes.specs.Superblock.{Geometry, IsBlock, block_in_group, linear_block, sector_of_block, sector_of_inode}

-- the bytes of a block of an image
abbrev pub block_of : Geometry → List ℕ → ℕ → List ℕ
block_of g image block = slice_range image (512 * sector_of_block g block) (512 * sector_of_block g block + 4096)

-- the image with other bytes in a block
abbrev pub with_block : Geometry → List ℕ → ℕ → List ℕ → List ℕ
with_block g image block bytes = overlaid image (512 * sector_of_block g block) bytes

-- the image with other bytes in an inode
abbrev pub with_inode : Geometry → List ℕ → ℕ → List ℕ → List ℕ
with_inode g image ino bytes = overlaid image (512 * sector_of_inode g ino) bytes

-- a block of the log, which lies within one group
pub record IsLogBlock (g : Geometry) (block : ℕ) : Type 0 where
  pub from : linear_block g g.log_start ≤ linear_block g block
  pub below : linear_block g block < linear_block g g.log_start + g.log_blocks

-- a block that a fork may map: in range, outside the log, and not the first block of its group
pub record IsHome (g : Geometry) (block : ℕ) : Type 0 where
  pub place : IsBlock g block
  pub no_log : ¬ IsLogBlock g block
  pub not_first : block_in_group g block ≢ 0
