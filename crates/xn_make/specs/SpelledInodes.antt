-- The bytes of an inode that is made, as its pieces are laid over zeros.
use Rattle.std.specs.Prelude.{◌≡◌, ℕ, ◌+◌, ◌*◌, ◌^◌, List, [], ◌∷◌, ◌++◌, replicate, slice_set}
use Rattle.byteorder.specs.Endian.{big_bytes, little_bytes}
use Rattle.xn_bytes.specs.Numbers.{overlaid}
use Rattle.xn_make.specs.declared.inodes.CoreNumbers.{CoreNumbers}
use Rattle.xn_make.specs.Fixed.{small_uuid, no_attributes}

-- zeros, but for the attributes
abbrev pub blank_inode : List ℕ
blank_inode = overlaid (replicate 512 0) 368 no_attributes

-- the bytes without their checksum
abbrev pub inode_fields : CoreNumbers → List ℕ → List ℕ
inode_fields core fork =
    overlaid (overlaid (overlaid (slice_set (slice_set (overlaid (overlaid (overlaid (overlaid (slice_set (slice_set (overlaid (overlaid
    (overlaid blank_inode 176 fork)
    0 (0x49 ∷ 0x4e ∷ [])) 2 (big_bytes 2 core.mode))
    4 3) 5 core.format)
    16 (big_bytes 4 core.links)) 56 (big_bytes 8 core.size)) 64 (big_bytes 8 core.block_count)) 76 (big_bytes 4 core.extent_count))
    82 24) 83 1)
    92 (big_bytes 4 core.generation)) 152 (big_bytes 8 core.number)) 160 small_uuid

-- with a checksum
abbrev pub inode_bytes : CoreNumbers → List ℕ → ℕ → List ℕ
inode_bytes core fork checksum = overlaid (inode_fields core fork) 100 (little_bytes 4 checksum)

abbrev pub IsInodeSpelled : List ℕ → CoreNumbers → List ℕ → Type 0
IsInodeSpelled inode core fork = (checksum : ℕ) × (inode ≡ inode_bytes core fork checksum)

-- what is put for a directory in short form, and for an empty regular file
abbrev pub directory_numbers : ℕ → ℕ → ℕ → ℕ → CoreNumbers
directory_numbers number generation links size =
    record { number = number; mode = 0x4000; format = 1; links = links; size = size; block_count = 0; extent_count = 0; generation = generation }

abbrev pub file_numbers : ℕ → ℕ → ℕ → CoreNumbers
file_numbers number generation links =
    record { number = number; mode = 0x8000; format = 2; links = links; size = 0; block_count = 0; extent_count = 0; generation = generation }

-- the one extent of file block 0, at a block
abbrev pub extent_bytes : ℕ → List ℕ
extent_bytes block = replicate 8 0 ++ big_bytes 8 (block * 2 ^ 21 + 1)
