-- The sample image: as many directories and regular files as are asked for, all empty, a pool as large as is asked for, and
-- the log. Its one group has 512 blocks for the superblock and the inodes, then the pool, then the log's 512 blocks.
use Rattle.std.specs.Prelude.{◌≡◌, ◌≢◌, ◌⊎◌, ℕ, ◌+◌, ◌*◌, ◌/◌, ◌<◌, ◌≤◌, ◌==◌, if◌then◌else◌, List, [], ◌∷◌, length, map, replicate}
use Rattle.std.specs.List.{range_with_len}
use Rattle.xn_bytes.specs.Numbers.{sector_of}
use Rattle.xn_bytes.specs.Superblock.{Geometry}
use Rattle.xn_bytes.specs.Inode.{HasCore, HasBothForks, inode_of}
use Rattle.xn_meaning.specs.Manifests.{Manifest, HasPlaces, Lists}
use Rattle.xn_make.specs.Images.{IsImageSuperblock, IsShortDirectory, IsEmptyFile, empty_form}

-- how many sectors there are with a pool of so many blocks
abbrev pub sample_sectors : ℕ → ℕ
sample_sectors pool = 8 * (512 + pool + 512)

-- the root has two links, and no other inode has one
abbrev pub sample_links : ℕ → ℕ
sample_links place = if place == 0 then 2 else 0

-- Of so many inodes the first quarter are directories with parent 128, and the rest regular files. The places are counted
-- from that of the root, whose generation is 1.
pub record IsSampleInode (inode : List ℕ) (count place : ℕ) : Type 0 where
  pub directory : place < count / 4 → IsShortDirectory inode (128 + place) (place + 1) (sample_links place) empty_form
  pub file : count / 4 ≤ place → IsEmptyFile inode (128 + place) (place + 1) 0

-- the first so many of the inodes have been put, and no other sector is changed
pub record HasSampleInodes (count done : ℕ) (old new : List ℕ) : Type 0 where
  pub whole : length new ≡ length old
  pub inodes : (place : ℕ) → place < done → IsSampleInode (sector_of new (128 + place)) count place
  pub others : (sector : ℕ) → 512 * sector + 512 ≤ length old → (sector < 128) ⊎ (128 + done ≤ sector) → sector_of new sector ≡ sector_of old sector

-- the image: its superblock, an inode in each sector from 128 on, and zeros elsewhere, the log among them
pub record IsSampleImage (image : List ℕ) (count pool : ℕ) : Type 0 where
  pub whole : length image ≡ 512 * sample_sectors pool
  pub superblock : IsImageSuperblock (sector_of image 0) (512 + pool)
  pub inodes : (place : ℕ) → place < count → IsSampleInode (sector_of image (128 + place)) count place
  pub zeros : (sector : ℕ) → sector < sample_sectors pool → sector ≢ 0 → (sector < 128) ⊎ (128 + count ≤ sector) → sector_of image sector ≡ replicate 512 0

-- a chunk of 64 inodes, all of them in use
abbrev pub full_chunk : ℕ → ℕ × ℕ
full_chunk place = (128 + 64 * place, 0)

-- its manifest: all the inodes, and one run for the pool
abbrev pub sample_manifest : ℕ → ℕ → Manifest
sample_manifest inodes pool = record {
  chunks = map full_chunk (range_with_len 0 (inodes / 64));
  runs = (512, pool) ∷ [];
}

-- Rule 2 holds of an image with a manifest, and rules 10 and 11 of each inode that this lists.
pub record HasSoundInodes (g : Geometry) (image : List ℕ) (m : Manifest) : Type 0 where
  pub places : HasPlaces g m
  pub cores : (ino : ℕ) → Lists m ino → HasCore (inode_of g image ino) ino g.meta_uuid
  pub forks : (ino : ℕ) → Lists m ino → HasBothForks g (inode_of g image ino) ino
