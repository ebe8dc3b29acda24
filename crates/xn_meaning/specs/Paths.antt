-- Paths: names between slashes.
use Rattle.std.specs.Prelude.{ℕ, ◌==◌, nat_lt, if◌then◌else◌, List, [], ◌∷◌, length, filter}

-- between the parts of a path
abbrev pub slash : ℕ
slash = 47

-- a byte in front of the first of some pieces
abbrev pub onto : ℕ → List (List ℕ) → List (List ℕ)
onto byte [] = (byte ∷ []) ∷ []
onto byte (piece ∷ pieces) = (byte ∷ piece) ∷ pieces

-- what stands between the slashes, in front of the first and behind the last too
abbrev pub pieces_of : List ℕ → List (List ℕ)
pieces_of [] = [] ∷ []
pieces_of (byte ∷ bytes) = if byte == slash then [] ∷ pieces_of bytes else onto byte (pieces_of bytes)

-- the parts of a path: the pieces that are not empty
abbrev pub parts_of : List ℕ → List (List ℕ)
parts_of path = filter (λ piece. nat_lt 0 (length piece)) (pieces_of path)
