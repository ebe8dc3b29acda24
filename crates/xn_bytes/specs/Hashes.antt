-- The hashes by which directories and attribute forks are indexed (`xfs_da_hashname` of `xfs_da_btree.c`, and
-- `xfs_parent_hashval` of `xfs_parent.c`).
use Rattle.std.specs.Prelude.{ℕ, ◌/◌, ◌%◌, ◌^◌, List, fold, bit_xor}
use Rattle.std.specs.Int.{w32, rotate_left}

-- the hash after one more byte
abbrev pub hash_step : ℕ → ℕ → ℕ
hash_step hash byte = bit_xor byte (rotate_left w32 hash 7)

-- the hash of a name
unfoldable pub name_hash_of : List ℕ → ℕ
name_hash_of name = fold hash_step 0 name

-- the hash of a parent record: that of its name, xor the two halves of the parent's number
abbrev pub parent_hash_of : List ℕ → ℕ → ℕ
parent_hash_of name parent = bit_xor (bit_xor (name_hash_of name) (parent / 2 ^ 32)) (parent % 2 ^ 32)
