-- Names that can stand more than once: those with a hash that more than one leaf entry has.
use Rattle.std.specs.Prelude.{◌≡◌, ℕ, Bool, false, List, ◌++◌, ◌==◌, AllPairs, IsPermutation, map}
use Rattle.std.specs.List.{list_any}
use Rattle.xn_bytes.specs.Hashes.{name_hash_of}
use Rattle.xn_bytes.specs.DataBlock.{LeafEntry}
use Rattle.xn_dir.specs.declared.listing.Listed.{Listed}
use Rattle.xn_dir.specs.Listings.{name_of}

abbrev pub hash_of : LeafEntry → ℕ
hash_of leaf = leaf.hash

-- leaf entries have the hashes of these names, each as often, and perhaps others
pub record HaveHashes (leaves : List LeafEntry) (names : List (List ℕ)) : Type 0 where
  pub others : List ℕ
  pub same : IsPermutation (map hash_of leaves) (others ++ map name_hash_of names)

-- a hash is one of these
abbrev pub is_among : List ℕ → ℕ → Bool
is_among hashes hash = list_any (λ other. other == hash) hashes

-- a hash that is not one of those that are repeated stands once
abbrev pub AreRepeated : List ℕ → List ℕ → Type 0
AreRepeated hashes repeated = (hash : ℕ) → is_among repeated hash ≡ false → AllPairs (λ a b. a ≡ hash → b ≡ hash → ⊥) hashes

-- the hash of a name is one of these
abbrev pub has_hash_among : List ℕ → Listed → Bool
has_hash_among hashes entry = is_among hashes (name_hash_of (name_of entry))
