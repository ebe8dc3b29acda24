-- CRC32c, from its polynomial, on bits. (Castagnoli's polynomial, as RFC 3720, 12.1, and the metadata
-- checksums of "XFS Algorithms and Data Structures" use it.)
use Rattle.std.specs.Prelude.{◌≡◌, ℕ, zero, suc, ◌+◌, ◌*◌, ◌/◌, ◌%◌, ◌^◌, ◌==◌, if◌then◌else◌, List, replicate, fold, bit_xor}
use Rattle.xn_bytes.specs.Numbers.{little_number_at, overlaid}

-- the low `width` bits of a number in the opposite order
abbrev pub reversed_bits : ℕ → ℕ → ℕ
reversed_bits zero n = 0
reversed_bits (suc width) n = n % 2 * 2 ^ width + reversed_bits width (n / 2)

-- The coefficients of x^31 to x^0 of the polynomial x^32 + 0x1edc6f41. The register holds its bits
-- reflected: its lowest bit is the coefficient of x^31.
abbrev pub polynomial : ℕ
polynomial = reversed_bits 32 0x1edc6f41

-- the register after one more bit that is 0: shifted, and the polynomial taken off where x^32 appears
abbrev pub bit_step : ℕ → ℕ
bit_step register = if register % 2 == 1 then bit_xor (register / 2) polynomial else register / 2

-- the register after that many such bits
unfoldable pub bit_steps : ℕ → ℕ → ℕ
bit_steps zero register = register
bit_steps (suc count) register = bit_steps count (bit_step register)

-- the register after a byte, whose lowest bit comes first
unfoldable pub byte_step : ℕ → ℕ → ℕ
byte_step register byte = bit_steps 8 (bit_xor register byte)

-- the register after more bytes
abbrev pub register_after : ℕ → List ℕ → ℕ
register_after register bytes = fold byte_step register bytes

-- the register of a message: it starts as all ones
abbrev pub register_of : List ℕ → ℕ
register_of bytes = register_after 0xffffffff bytes

-- the checksum of a message: the register with each bit inverted
abbrev pub crc32c : List ℕ → ℕ
crc32c bytes = bit_xor (register_of bytes) 0xffffffff

-- the checksum of an object whose own checksum stands at the place `at`, and counts as zeros
abbrev pub checksum_with : List ℕ → ℕ → ℕ
checksum_with bytes at = crc32c (overlaid bytes at (replicate 4 0))

-- the checksum that stands at the place `at`, lowest byte first, is right
abbrev pub HasChecksum : List ℕ → ℕ → Type 0
HasChecksum bytes at = little_number_at 4 at bytes ≡ checksum_with bytes at
