-- Numbers in bytes, pieces of bytes, and bytes with others laid over them.
-- Layouts read numbers of several bytes by `number_at` or `little_number_at`, and single bytes by `slice_index`.
use Rattle.std.specs.Prelude.{ℕ, ◌+◌, ◌*◌, List, ◌++◌, length, take, drop, slice_range}
use Rattle.byteorder.specs.Endian.{big_number, little_number}

-- the number of `width` bytes at the place `at`, the highest byte first
unfoldable pub number_at : ℕ → ℕ → List ℕ → ℕ
number_at width at bytes = big_number width (drop at bytes)

-- the number of `width` bytes at the place `at`, the lowest byte first
unfoldable pub little_number_at : ℕ → ℕ → List ℕ → ℕ
little_number_at width at bytes = little_number width (drop at bytes)

-- the bytes with the piece `over` laid over them from the place `at` on
abbrev pub overlaid : List ℕ → ℕ → List ℕ → List ℕ
overlaid bytes at over = take at bytes ++ over ++ drop (at + length over) bytes

-- the bytes of a sector of an image
abbrev pub sector_of : List ℕ → ℕ → List ℕ
sector_of image sector = slice_range image (512 * sector) (512 * sector + 512)
