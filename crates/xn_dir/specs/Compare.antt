-- Leaf entries in order.
use Rattle.std.specs.Prelude.{Bool}
use Rattle.std.specs.Ordering.{nat_cmp, is_lt, ordering_then}
use Rattle.xn_bytes.specs.DataBlock.{LeafEntry}

-- by hash, and of one hash by address
abbrev pub comes_before : LeafEntry → LeafEntry → Bool
comes_before leaf other = is_lt (ordering_then (nat_cmp leaf.hash other.hash) (nat_cmp leaf.address other.address))
