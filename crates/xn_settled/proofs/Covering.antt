-- Regions that cover pieces have as many bytes as these.
use Rattle.std.proofs.Common.{◌≡◌, ℕ, ◌*◌, ◌/◌, ◌%◌, ◌≤◌, Bool, true, false, eqb-true, List, [], ◌∷◌, ◌&&◌, length, drop, refl, ◌∙◌, arith}
use Rattle.std.specs.Prelude.{◌==◌, flat_map, nat_le, nat_lt, take}
use Rattle.std.proofs.lemmas.Bool.Decides.{nat_tests}
use Rattle.std.proofs.lemmas.List.{length-append, length-drop}
use Rattle.xn_changes.specs.Items.{are_neighbours, count_up, cover}

both : (a b : Bool) → (a && b) ≡ true → (a ≡ true) × (b ≡ true)
both true b e = (refl, e)
both false b e = absurd (cc)

neighbours_there : (count : ℕ) (pieces : List ℕ) → are_neighbours count pieces ≡ true → count ≤ length pieces
neighbours_there count [] e = absurd (cc)
neighbours_there count (piece ∷ pieces) e =
    let there = (both (nat_le count (length (piece ∷ pieces))) (count_up piece (take count (piece ∷ pieces))) e).0 in
    grind (arith, nat_tests)

-- the regions' bytes are those of the pieces
pub length-covering : (regions : List (List ℕ)) (pieces : List ℕ) → cover regions pieces ≡ true → length (flat_map (λ region. region) regions) ≡ 128 * length pieces
unfolding cover
length-covering [] [] e = refl
length-covering [] (piece ∷ pieces) e = absurd (cc)
length-covering (region ∷ regions) pieces e =
    let count = length region / 128 in
    let exact = length region % 128 == 0 in
    let some = nat_lt 0 (length region) in
    let near = are_neighbours count pieces in
    let rest = both (exact && some && near) (cover regions (drop count pieces)) e in
    let there = both (exact && some) near rest.0 in
    let whole = both exact some there.0 in
    let few : count ≤ length pieces = neighbours_there count pieces there.1 in
    let full : length region % 128 ≡ 0 = eqb-true (length region % 128) 0 whole.0 in
    let behind : length (flat_map (λ region. region) regions) ≡ 128 * length (drop count pieces) = length-covering regions (drop count pieces) rest.1 in
    length-append region (flat_map (λ region. region) regions) ∙ omega (arith, behind, length-drop count pieces, few, full)
