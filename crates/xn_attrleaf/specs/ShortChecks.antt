-- What the checks of attributes in short form answer.
use Rattle.std.specs.Prelude.{ℕ, ◌+◌, Bool, ◌&&◌, nat_le, if◌then◌else◌, List, length, drop, map, slice_index, sum_by, Option, Some, None}
use Rattle.xn_bytes.specs.declared.attribute.Attribute.{Attribute}
use Rattle.xn_bytes.specs.ShortAttributes.{attribute_of_short, short_attribute_size, front_size, attributes_in, attributes_there}

-- whether the attribute at the front has all its bytes
abbrev pub front_there : List ℕ → Bool
front_there rest = nat_le 3 (length rest) && nat_le (front_size rest) (length rest)

-- how many they are, if it has
abbrev pub front_end : List ℕ → Option ℕ
front_end rest = if front_there rest then Some (front_size rest) else None

-- where so many attributes end that begin at a place, if their bytes are all there
abbrev pub end_from : ℕ → ℕ → List ℕ → Option ℕ
end_from at count rest = if attributes_there count rest then Some (at + sum_by short_attribute_size (attributes_in count rest)) else None

-- where the attributes of a fork end, if their bytes are all there
abbrev pub end_in : List ℕ → Option ℕ
end_in fork = if nat_le 4 (length fork) then end_from 4 (slice_index fork 2) (drop 4 fork) else None

-- the attributes at the front of a fork
abbrev pub attributes_at_front : List ℕ → List Attribute
attributes_at_front fork = map attribute_of_short (attributes_in (slice_index fork 2) (drop 4 fork))
