-- Two regions of 128 bytes cover the pieces of the map with the bits 0 and 3.
use Rattle.std.proofs.Common.{◌≡◌, ℕ, ◌∷◌, [], List, length, true, refl, arith}
use Rattle.xn_changes.specs.Items.{cover, pieces_from, pieces_in, pieces_of_word}
use Rattle.xn_settled.specs.Spelt.{IsCovered}

two_pieces : pieces_in (9 ∷ []) ≡ 0 ∷ 3 ∷ []
unfolding pieces_from pieces_of_word
two_pieces = refl

two_cover : (first second : List ℕ) → length first ≡ 128 → length second ≡ 128 → cover (first ∷ second ∷ []) (0 ∷ 3 ∷ []) ≡ true
unfolding cover
two_cover first second one two = rw (one, two) refl

pub covers_two : (flags : ℕ) (first second map : List ℕ) (regions : List (List ℕ)) → map ≡ 9 ∷ [] → regions ≡ first ∷ second ∷ [] → length first ≡ 128 → length second ≡ 128 → IsCovered (record { flags = flags; length = 8; sector = 96; map = map; regions = regions })
covers_two flags first second map regions is_map are one two =
    rw (is_map, are) (record { words = omega arith; covered = rw two_pieces (two_cover first second one two); within = rw two_pieces refl })
