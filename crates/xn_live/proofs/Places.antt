-- Where an inode stands among the live ones.
use Rattle.std.proofs.Common.{◌≡◌, ℕ, ◌<◌, List, length, get_or, Result, Ok, Err, ◌∙◌, sym, arith, inl, inr}
use Rattle.std.specs.Prelude.{Contains, MatchOption}
use Rattle.std.specs.List.{AllAdjacentBelow}
use Rattle.std.specs.List.Sorted.{IsBinarySearchResult}
use Rattle.std.specs.Ordering.{nat_cmp}
use Rattle.std.specs.Result.{result_ok}
use Rattle.std.proofs.lemmas.Bool.{cases_lt}
use Rattle.std.proofs.lemmas.List.{get_or_default}
use Rattle.std.proofs.lemmas.List.Sorted.{IsNonDecreasingBy-from_all_adjacent, searched}

-- what a search by halves found is its place, or it stands nowhere
pub place_found : (live : List ℕ) (ino : ℕ) (r : Result ℕ ℕ) → AllAdjacentBelow (λ a b. a < b) live (length live) → IsBinarySearchResult (λ y. nat_cmp y ino) live r
    → MatchOption (result_ok r) (Contains live ino → ⊥) (λ at. (at < length live) × (get_or live at 0 ≡ ino))
place_found live ino (Ok at) rising found =
    let up = IsNonDecreasingBy-from_all_adjacent (λ (n : ℕ). n) live (λ k e h. let one = rising k e h in omega (arith, one)) in
    searched live ino (Ok at) found (λ i j le lt. up i j 0 le lt)
place_found live ino (Err at) rising found =
    let up = IsNonDecreasingBy-from_all_adjacent (λ (n : ℕ). n) live (λ k e h. let one = rising k e h in omega (arith, one)) in
    let out = searched live ino (Err at) found (λ i j le lt. up i j 0 le lt) in
    λ has.
    let same = sym (get_or_default live has.0 ino 0 has.1) ∙ has.2 in
    elim (cases_lt has.0 at) [
      | inl early ↦ let less = out.1 has.0 early in omega (arith, same, less)
      | inr late ↦ let more = out.2 has.0 late has.1 in omega (arith, same, more)
    ]
