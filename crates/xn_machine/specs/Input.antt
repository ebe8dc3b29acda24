-- What a read of a source takes of what is left of it, which is known of some sources only.
use Rattle.std.specs.Prelude.{◌≡◌, ◌↔◌, ℕ, ◌≤◌, List, [], length, take, drop, Option, Some, None, MatchOption}

-- the first `count` bytes that were left stand at the front of `into`, and the rest is left
abbrev pub Takes : Option (List ℕ) → Option (List ℕ) → ℕ → List ℕ → Type 0
Takes before now count into =
    MatchOption before (now ≡ None)
    (λ left. (count ≤ length left) × (take count into ≡ take count left) × (now ≡ Some (drop count left)))

-- the end of the input comes exactly where nothing is left
abbrev pub EndsRightly : Option (List ℕ) → ℕ → Type 0
EndsRightly before count = MatchOption before (Unit {0}) (λ left. (count ≡ 0) ↔ (left ≡ []))
