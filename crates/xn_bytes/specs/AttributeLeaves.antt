-- A leaf of an attribute fork (`struct xfs_attr3_leaf_hdr`, `xfs_attr_leaf_entry`, `xfs_attr_leaf_name_local` and
-- `xfs_attr_leaf_name_remote` of `xfs_da_format.h`): entries sorted by hash in front, and names with their values, in any
-- order, behind them.
use Rattle.std.specs.Prelude.{◌≡◌, ◌⊎◌, ℕ, zero, suc, ◌+◌, ◌*◌, ◌/◌, ◌<◌, ◌≤◌, if◌then◌else◌, List, [], ◌∷◌, length, drop, map, slice_range, sum_by, All, AllPairs, Option, Some, None}
use Rattle.std.specs.List.Sorted.{IsNonDecreasingBy}
use Rattle.xn_bytes.specs.Numbers.{number_at}
use Rattle.xn_bytes.specs.Checksum.{HasChecksum}
use Rattle.xn_bytes.specs.declared.attribute.Attribute.{Attribute}
use Rattle.xn_bytes.specs.declared.attribute.Value.{Value}
use Rattle.xn_bytes.specs.declared.attribute.Value.TheVariants.{Here, Remote}
use Rattle.xn_bytes.specs.Attributes.{is_local, without_local, attribute_hash}

abbrev pub attr_leaf_magic : ℕ
attr_leaf_magic = 0x3bee

-- where the entries begin, behind the header and its map of free bytes
abbrev pub attr_leaf_header : ℕ
attr_leaf_header = 80

-- An entry: the hash of an attribute, the byte place of its name, and its flags.
pub record AttrEntry : Type 0 where
  pub hash : ℕ
  pub place : ℕ
  pub flags : ℕ

abbrev pub attr_entry_at : ℕ → List ℕ → AttrEntry
attr_entry_at at bytes = record { hash = number_at 4 at bytes; place = number_at 2 (at + 4) bytes; flags = number_at 1 (at + 6) bytes }

-- so many entries side by side
abbrev pub attr_entries_at : ℕ → ℕ → List ℕ → List AttrEntry
attr_entries_at zero at bytes = []
attr_entries_at (suc count) at bytes = attr_entry_at at bytes ∷ attr_entries_at count (at + 8) bytes

-- the entries of a leaf
abbrev pub attr_entries : List ℕ → List AttrEntry
attr_entries bytes = attr_entries_at (number_at 2 56 bytes) attr_leaf_header bytes

-- ---- names and values

-- rounded up to a multiple of 4
abbrev pub rounded : ℕ → ℕ
rounded size = (size + 3) / 4 * 4

-- how many bytes a name takes with its value beside it, by their lengths
abbrev pub local_size : ℕ → ℕ → ℕ
local_size name value = rounded (3 + name + value)

-- and with a value that stands elsewhere
abbrev pub remote_size : ℕ → ℕ
remote_size name = rounded (11 + name)

-- Where the bytes of a name begin, behind its length: with the value beside it that of the value stands in front of that,
-- else the value's block and length.
abbrev pub name_place : AttrEntry → ℕ
name_place entry = entry.place + (if is_local entry.flags then 3 else 9)

abbrev pub name_length : List ℕ → AttrEntry → ℕ
name_length bytes entry = number_at 1 (entry.place + (if is_local entry.flags then 2 else 8)) bytes

-- the length of a value that stands beside the name
abbrev pub value_length : List ℕ → AttrEntry → ℕ
value_length bytes entry = number_at 2 entry.place bytes

-- how many bytes name and value take in the leaf
abbrev pub name_size : List ℕ → AttrEntry → ℕ
name_size bytes entry =
    if is_local entry.flags then local_size (name_length bytes entry) (value_length bytes entry) else remote_size (name_length bytes entry)

-- the value, whose bytes follow those of the name where it stands beside it
abbrev pub value_at : List ℕ → AttrEntry → Value
value_at bytes entry =
    if is_local entry.flags
    then Here (slice_range bytes (name_place entry + name_length bytes entry) (name_place entry + name_length bytes entry + value_length bytes entry))
    else Remote (number_at 4 entry.place bytes) (number_at 4 (entry.place + 4) bytes)

-- the attribute of an entry
abbrev pub attribute_at : List ℕ → AttrEntry → Attribute
attribute_at bytes entry = record {
  flags = without_local entry.flags;
  name = slice_range bytes (name_place entry) (name_place entry + name_length bytes entry);
  value = value_at bytes entry;
}

-- ---- a leaf by itself, wherever it stands

-- Name and value lie between the least place that the leaf says is used and its end.
pub record IsWithin (bytes : List ℕ) (entry : AttrEntry) : Type 0 where
  pub behind : number_at 2 60 bytes ≤ entry.place
  pub before_end : entry.place + name_size bytes entry ≤ 4096

-- one ends at or before the place where the other begins
abbrev pub AreDisjoint : List ℕ → AttrEntry → AttrEntry → Type 0
AreDisjoint bytes a b = (a.place + name_size bytes a ≤ b.place) ⊎ (b.place + name_size bytes b ≤ a.place)

-- Whoever reads a single leaf looks at these, and compares place, uuid, owner and siblings himself: the magic number, the
-- checksum, names that lie apart from each other behind the entries, the number of bytes that they take, and entries
-- sorted by hash, which is that of their attribute. The map of free bytes and whether there are holes is not looked at.
pub record IsAttrLeaf (bytes : List ℕ) : Type 0 where
  pub whole : length bytes ≡ 4096
  pub are_bytes : All (λ byte. byte < 256) (drop 56 bytes)
  pub is_magic : number_at 2 8 bytes ≡ attr_leaf_magic
  pub checksum : HasChecksum bytes 12
  pub apart : attr_leaf_header + 8 * number_at 2 56 bytes ≤ number_at 2 60 bytes
  pub within : All (IsWithin bytes) (attr_entries bytes)
  pub disjoint : AllPairs (AreDisjoint bytes) (attr_entries bytes)
  pub used : number_at 2 58 bytes ≡ sum_by (name_size bytes) (attr_entries bytes)
  pub sorted : IsNonDecreasingBy (λ entry. entry.hash) (attr_entries bytes)
  pub hashes : All (λ entry. entry.hash ≡ attribute_hash (attribute_at bytes entry)) (attr_entries bytes)

-- the bytes are a leaf with these attributes, in the order of its entries
pub record AttrLeafHolds (bytes : List ℕ) (attributes : List Attribute) : Type 0 where
  pub leaf : IsAttrLeaf bytes
  pub are : attributes ≡ map (attribute_at bytes) (attr_entries bytes)

-- the hash of the last of entries
abbrev pub last_entry_hash : AttrEntry → List AttrEntry → ℕ
last_entry_hash entry [] = entry.hash
last_entry_hash entry (next ∷ others) = last_entry_hash next others

abbrev pub entry_ends : List AttrEntry → Option (ℕ × ℕ)
entry_ends [] = None
entry_ends (entry ∷ others) = Some (entry.hash, last_entry_hash entry others)

-- the first and the last hash in a leaf
abbrev pub attr_leaf_ends : List ℕ → Option (ℕ × ℕ)
attr_leaf_ends bytes = entry_ends (attr_entries bytes)

-- how many bytes a leaf has for entries, names and values
abbrev pub attr_leaf_capacity : ℕ
attr_leaf_capacity = 4016

-- how many of them an attribute takes
abbrev pub value_size : ℕ → Value → ℕ
value_size name (Here value) = local_size name (length value)
value_size name (Remote block size) = remote_size name

abbrev pub attribute_size : Attribute → ℕ
attribute_size attribute = 8 + value_size (length attribute.name) attribute.value
