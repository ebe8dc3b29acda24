-- What every leaf of a hashed tree keeps, and how one that is none is answered.
use Rattle.std.specs.Prelude.{◌≡◌, ◌≢◌, ℕ, List, [], ◌∷◌, length, drop, slice_range, Option, Some, None}
use Rattle.xn_bytes.specs.Numbers.{number_at}
use Rattle.xn_bytes.specs.Checksum.{HasChecksum}
use Rattle.xn_bytes.specs.HashedTree.{single_leaf_magic}
use Rattle.xn_datree.specs.declared.leaf.LeafFault.{LeafFault}
use Rattle.xn_datree.specs.declared.leaf.LeafFault.TheVariants.{Bad, Memory}

-- the bytes are no leaf, by its rule; want of memory is free
abbrev pub IsLeafFault : ℕ → Type 0 → LeafFault → Type 0
IsLeafFault rule NoLeaf (Bad number) = (number ≡ rule) × NoLeaf
IsLeafFault rule NoLeaf Memory = Unit {0}

-- siblings, place, uuid and owner stay
pub record KeepsHeader (old new : List ℕ) : Type 0 where
  pub whole : length new ≡ length old
  pub siblings : slice_range new 0 8 ≡ slice_range old 0 8
  pub place : slice_range new 16 56 ≡ slice_range old 16 56

-- Blocks that differ in siblings, place, uuid and owner alone: the magic number is the same, and not that of the single leaf
-- of leaf form, and so are the bytes from 56 on; both checksums are right.
pub record HasSameBody (bytes others : List ℕ) : Type 0 where
  pub whole : (length bytes ≡ 4096) × (length others ≡ 4096)
  pub magic : number_at 2 8 others ≡ number_at 2 8 bytes
  pub no_single : number_at 2 8 bytes ≢ single_leaf_magic
  pub body : drop 56 others ≡ drop 56 bytes
  pub checksum : HasChecksum bytes 12
  pub checksum_too : HasChecksum others 12

-- the hash of the last of entries
abbrev pub last_by : {E : Type 0} → (E → ℕ) → E → List E → ℕ
last_by hash entry [] = hash entry
last_by hash entry (next ∷ others) = last_by hash next others

-- the first and the last hash of entries
abbrev pub ends_of_list : {E : Type 0} → (E → ℕ) → List E → Option (ℕ × ℕ)
ends_of_list hash [] = None
ends_of_list hash (entry ∷ others) = Some (hash entry, last_by hash entry others)
