-- The live inodes of a chunk, and how they are gathered in rising order.
use Rattle.std.specs.Prelude.{◌≡◌, ◌⊎◌, ◌↔◌, ℕ, ◌+◌, ◌<◌, false, List, length, All, Contains}
use Rattle.std.specs.List.{AllAdjacentBelow}
use Rattle.xn_bytes.specs.Superblock.{Geometry, IsOwnInode}
use Rattle.xn_meaning.specs.Manifests.{ChunkLists, has_bit}

-- a chunk lists an inode, and it is none of the superblock's own
pub record IsLiveOf (g : Geometry) (chunk : ℕ × ℕ) (ino : ℕ) : Type 0 where
  pub listed : ChunkLists ino chunk
  pub not_own : ¬ IsOwnInode g ino

-- so is the one at a place of the chunk
pub record IsLiveAt (g : Geometry) (chunk : ℕ × ℕ) (k : ℕ) : Type 0 where
  pub in_use : has_bit chunk.1 k ≡ false
  pub not_own : ¬ IsOwnInode g (chunk.0 + k)

-- numbers in rising order, each below a bound
pub record AreRisingBelow (bound : ℕ) (live : List ℕ) : Type 0 where
  pub rising : AllAdjacentBelow (λ a b. a < b) live (length live)
  pub low : All (λ ino. ino < bound) live

-- the live inodes of a chunk were added to those before it, and they rise
pub record AreAdded (g : Geometry) (chunk : ℕ × ℕ) (before after : List ℕ) : Type 0 where
  pub rising : AreRisingBelow (chunk.0 + 64) after
  pub each : (ino : ℕ) → Contains after ino ↔ (Contains before ino ⊎ IsLiveOf g chunk ino)
