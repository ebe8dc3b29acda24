-- What every image and every inode made for it has.
use Rattle.std.specs.Prelude.{ℕ, List, [], ◌∷◌}
use Rattle.std.specs.List.{range_with_len}

-- the uuid of every image
abbrev pub small_uuid : List ℕ
small_uuid = range_with_len 0 16

-- attributes in short form, none of them: their size of 4 bytes, a count, and padding
abbrev pub no_attributes : List ℕ
no_attributes = 0 ∷ 4 ∷ 0 ∷ 0 ∷ []
