-- What calls of a store do: what a fault comes from, what a block that is put leaves, and which blocks are free.
use Rattle.std.specs.Prelude.{◌≡◌, ◌⊎◌, ◌↔◌, ℕ, ◌+◌, ◌^◌, ◌<◌, ◌≤◌, List, length, All, Contains, filter, not, ◌==◌, Option, None, MatchOption, IsSomeAnd, Result, IfErr}
use Rattle.std.specs.List.{AllAdjacentBelow}
use Rattle.xn_bytes.specs.Causes.{Rose}
use Rattle.xn_bytes.specs.Blocks.{with_block, with_inode}
use Rattle.xn_bytes.specs.Superblock.{Geometry}
use Rattle.xn_inode.specs.declared.store.StoreFault.{StoreFault}
use Rattle.xn_inode.specs.declared.store.StoreFault.TheVariants.{Read}

-- The count of faults never falls, and a read fault is answered only where it rose.
pub record HasStoreCause {T : Type 0} (before now : ℕ) (result : Result T StoreFault) : Type 0 where
  pub later : before ≤ now
  pub small : now < 2 ^ 64
  pub failed : IfErr result (λ fault. fault ≡ Read → Rose before now)

-- at most one more
pub record IsOneMore (before now : ℕ) : Type 0 where
  pub later : before ≤ now
  pub one : now ≤ before + 1

-- a fact of the old and the new image, where the store tells it; else it goes on not to tell it
abbrev pub BothImages : Option (List ℕ) → Option (List ℕ) → (List ℕ → List ℕ → Type 0) → Type 0
BothImages before now P = MatchOption before (now ≡ None) (λ x. IsSomeAnd now (λ y. P x y))

-- A put that gave up may have changed a part of the block or inode, and nothing else.
abbrev pub MayHavePutBlock : Geometry → ℕ → List ℕ → List ℕ → Type 0
MayHavePutBlock g block old new = (bytes : List ℕ) × (length bytes ≡ 4096) × (new ≡ with_block g old block bytes)

abbrev pub MayHavePutInode : Geometry → ℕ → List ℕ → List ℕ → Type 0
MayHavePutInode g ino old new = (bytes : List ℕ) × (length bytes ≡ 512) × (new ≡ with_inode g old ino bytes)

-- free blocks are blocks of the pool, in rising order, each once
pub record AreFree (pool free : List ℕ) : Type 0 where
  pub among : All (Contains pool) free
  pub rising : AllAdjacentBelow (λ a b. a < b) free (length free)

-- the least of the free blocks
pub record IsLeast (free : List ℕ) (block : ℕ) : Type 0 where
  pub among : Contains free block
  pub least : All (λ other. block ≤ other) free

-- The block that is taken: the one asked for where that is free, else the least. It is then no longer free.
pub record IsTaken (near : Option ℕ) (old new : List ℕ) (block : ℕ) : Type 0 where
  pub which : MatchOption near (IsLeast old block) (λ wanted. ((block ≡ wanted) × Contains old wanted) ⊎ (¬ Contains old wanted × IsLeast old block))
  pub left : new ≡ filter (λ other. not (other == block)) old

-- a block of the pool that is given is free from then on, and no other block changes
abbrev pub IsGiven : List ℕ → List ℕ → List ℕ → ℕ → Type 0
IsGiven pool old new block = (other : ℕ) → Contains new other ↔ (Contains old other ⊎ (Contains pool other × (other ≡ block)))
