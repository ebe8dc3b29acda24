-- Operations at places of a body.
use Rattle.std.specs.Prelude.{ℕ, ◌+◌, ◌*◌, ◌/◌, ◌%◌, ◌&&◌, nat_le, nat_lt, if◌then◌else◌, List, length, drop, Option, Some, None}
use Rattle.xn_log.specs.Records.{operation_size, sector_size}

-- where the operation at a place of a body ends, if it stands whole
abbrev pub operation_end : List ℕ → ℕ → Option ℕ
operation_end body place =
    if nat_le 12 (length (drop place body)) && nat_le (operation_size (drop place body)) (length (drop place body))
    then Some (place + operation_size (drop place body))
    else None

-- where the byte at a place of the body stands: in the cycle words, or in its sector
abbrev pub standing_at : ℕ → ℕ
standing_at place = if nat_lt (place % 512) 4 then 44 + 4 * (place / 512) + place % 512 else sector_size + place
