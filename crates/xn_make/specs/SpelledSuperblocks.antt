-- The bytes of a superblock, piece by piece.
use Rattle.std.specs.Prelude.{◌≡◌, ℕ, ◌+◌, ◌-◌, List, [], ◌∷◌, replicate, slice_set}
use Rattle.std.specs.Int.{leading_zeros, w32}
use Rattle.byteorder.specs.Endian.{big_bytes, little_bytes}
use Rattle.xn_bytes.specs.Numbers.{overlaid}
use Rattle.xn_make.specs.Fixed.{small_uuid}

-- the least number of bits that tell so many blocks from each other
abbrev pub block_bits : ℕ → ℕ
block_bits blocks = 32 - leading_zeros w32 (blocks - 1)

-- the bytes without their checksum, with so many blocks in front of the log
abbrev pub superblock_fields : ℕ → List ℕ
superblock_fields log_start =
    overlaid (slice_set (slice_set
    (overlaid (overlaid (overlaid (overlaid
    (overlaid (overlaid (overlaid (overlaid (overlaid
    (overlaid
    (overlaid (overlaid (overlaid
    (replicate 512 0)
    0 (0x58 ∷ 0x46 ∷ 0x53 ∷ 0x42 ∷ [])) 4 (big_bytes 4 4096)) 8 (big_bytes 8 (log_start + 512)))
    32 small_uuid)
    48 (big_bytes 8 log_start)) 56 (big_bytes 8 128)) 84 (big_bytes 4 (log_start + 512))) 88 (big_bytes 4 1)) 96 (big_bytes 4 512))
    100 (big_bytes 2 5)) 102 (big_bytes 2 512)) 104 (big_bytes 2 512)) 106 (big_bytes 2 8))
    123 3) 124 (block_bits (log_start + 512)))
    216 (big_bytes 4 0x81)

-- with a checksum
abbrev pub superblock_bytes : ℕ → ℕ → List ℕ
superblock_bytes log_start checksum = overlaid (superblock_fields log_start) 224 (little_bytes 4 checksum)

abbrev pub IsSuperblockSpelled : List ℕ → ℕ → Type 0
IsSuperblockSpelled bytes log_start = (checksum : ℕ) × (bytes ≡ superblock_bytes log_start checksum)
