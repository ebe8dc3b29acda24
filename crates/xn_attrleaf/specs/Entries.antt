-- Where the parts of an entry's name and value lie.
use Rattle.std.specs.Prelude.{◌≡◌, ℕ, ◌+◌, ◌*◌, ◌≤◌, if◌then◌else◌, List, All, AllPairs, sum_by}
use Rattle.std.specs.List.Sorted.{IsNonDecreasingBy}
use Rattle.xn_bytes.specs.Checksum.{HasChecksum}
use Rattle.xn_bytes.specs.declared.attribute.Attribute.{Attribute}
use Rattle.xn_bytes.specs.declared.attribute.Value.TheVariants.{Here}
use Rattle.xn_bytes.specs.Numbers.{number_at}
use Rattle.xn_bytes.specs.Attributes.{attribute_hash, is_local}
use Rattle.xn_bytes.specs.AttributeLeaves.{AreDisjoint, AttrEntry, IsWithin, attr_entries, attr_leaf_header, attr_leaf_magic, attribute_at, name_size}

-- There is room for a name and a value of no bytes, so that their lengths can be read.
abbrev pub HasHead : AttrEntry → Type 0
HasHead entry = entry.place + (if is_local entry.flags then 4 else 12) ≤ 4096

-- name and value end within the leaf
abbrev pub IsInside : List ℕ → AttrEntry → Type 0
IsInside bytes entry = entry.place + name_size bytes entry ≤ 4096

-- the entries have their place in front of all names, and within the leaf where there is no name
pub record HasRoom (bytes : List ℕ) : Type 0 where
  pub apart : attr_leaf_header + 8 * number_at 2 56 bytes ≤ number_at 2 60 bytes
  pub few : number_at 2 56 bytes ≤ 502

-- the header of a leaf is right
pub record IsFramed (bytes : List ℕ) : Type 0 where
  pub is_magic : number_at 2 8 bytes ≡ attr_leaf_magic
  pub checksum : HasChecksum bytes 12
  pub room : HasRoom bytes

-- the names have their place, and their bytes are counted
pub record HasPlaces (bytes : List ℕ) : Type 0 where
  pub within : All (IsWithin bytes) (attr_entries bytes)
  pub used : number_at 2 58 bytes ≡ sum_by (name_size bytes) (attr_entries bytes)

-- the entries are in the order of the hashes, which are those of their attributes, and the names lie apart
pub record IsIndexed (bytes : List ℕ) : Type 0 where
  pub sorted : IsNonDecreasingBy (λ entry. entry.hash) (attr_entries bytes)
  pub hashes : All (λ entry. entry.hash ≡ attribute_hash (attribute_at bytes entry)) (attr_entries bytes)
  pub disjoint : AllPairs (AreDisjoint bytes) (attr_entries bytes)

-- an attribute with the value beside its name
abbrev pub with_value_here : ℕ → List ℕ → List ℕ → Attribute
with_value_here flags name value = record { flags = flags; name = name; value = Here value }
