-- Where the inodes that a manifest lists stand.
use Rattle.std.specs.Prelude.{◌≡◌, ◌↔◌, ℕ, ◌/◌, ◌^◌, ◌≤◌, List, All, Contains}
use Rattle.xn_bytes.specs.Superblock.{Geometry}
use Rattle.xn_bytes.specs.Blocks.{IsHome}
use Rattle.xn_meaning.specs.Manifests.{Manifest, ChunkLists, HasPlaces, InPool}
use Rattle.xn_pool.specs.Pools.{PoolState}

-- an inode stands in a block that a fork may map, and that is not free
pub record IsPlaced (g : Geometry) (pool : PoolState) (ino : ℕ) : Type 0 where
  pub home : IsHome g (ino / 8)
  pub apart : ¬ Contains pool.free (ino / 8)

-- so does each inode that a chunk lists
abbrev pub ChunkIsPlaced : Geometry → PoolState → ℕ × ℕ → Type 0
ChunkIsPlaced g pool chunk = (ino : ℕ) → ChunkLists ino chunk → IsPlaced g pool ino

-- starts of chunks are small
abbrev pub AreStarts : List (ℕ × ℕ) → Type 0
AreStarts chunks = All (λ chunk. chunk.0 ≤ 2 ^ 56) chunks

-- Rule 2 holds, and this is the manifest's pool, of which every block is free.
pub record IsPoolFor (g : Geometry) (m : Manifest) (pool : PoolState) : Type 0 where
  pub places : HasPlaces g m
  pub blocks : (block : ℕ) → Contains pool.blocks block ↔ InPool m block
  pub free : pool.free ≡ pool.blocks
