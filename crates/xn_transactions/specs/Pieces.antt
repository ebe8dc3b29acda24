-- Pieces of a buffer that a region covers.
use Rattle.std.specs.Prelude.{ℕ, ◌/◌, ◌%◌, Bool, ◌==◌, ◌&&◌, nat_lt, List, length}
use Rattle.xn_changes.specs.Items.{are_neighbours, piece_size}

-- the region covers the first of these pieces, as many as it has bytes for, and one at least
abbrev pub covers : List ℕ → List ℕ → Bool
covers region pieces =
    (length region % piece_size == 0) && nat_lt 0 (length region) && are_neighbours (length region / piece_size) pieces
