-- Extended attributes of an inode, wherever they stand: what their flags say, and the hashes by which they are found
-- (`xfs_attr_leaf_entry` of `xfs_da_format.h`, `xfs_attr_hashval` of `xfs_attr.c`).
use Rattle.std.specs.Prelude.{ℕ, ◌-◌, ◌/◌, ◌%◌, ◌==◌, if◌then◌else◌, Bool, List, length}
use Rattle.xn_bytes.specs.declared.attribute.Attribute.{Attribute}
use Rattle.xn_bytes.specs.declared.attribute.Value.{Value}
use Rattle.xn_bytes.specs.declared.attribute.Value.TheVariants.{Here, Remote}
use Rattle.xn_bytes.specs.Numbers.{number_at}
use Rattle.xn_bytes.specs.Hashes.{name_hash_of, parent_hash_of}

-- ---- flags

-- bit 0: the value stands beside the name
abbrev pub is_local : ℕ → Bool
is_local flags = flags % 2 == 1

-- the flags without that bit
abbrev pub without_local : ℕ → ℕ
without_local flags = flags - flags % 2

-- bit 3: a parent record
abbrev pub is_parent : ℕ → Bool
is_parent flags = flags / 8 % 2 == 1

-- bit 7: a change of it was begun and not ended
abbrev pub is_incomplete : ℕ → Bool
is_incomplete flags = flags / 128 % 2 == 1

-- ---- hashes

-- how many bytes the value of a parent record has: the parent's inode number in 8, and its generation in 4
abbrev pub parent_value_size : ℕ
parent_value_size = 12

-- the hash of an attribute with the parent flag, where its value is that of a parent record
abbrev pub record_hash : List ℕ → Value → ℕ
record_hash name (Here value) = if length value == parent_value_size then parent_hash_of name (number_at 8 0 value) else name_hash_of name
record_hash name (Remote block size) = name_hash_of name

-- Every attribute is hashed by its name alone, but for parent records.
abbrev pub attribute_hash : Attribute → ℕ
attribute_hash attribute =
    if is_parent attribute.flags then record_hash attribute.name attribute.value else name_hash_of attribute.name
