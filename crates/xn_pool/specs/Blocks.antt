-- The blocks of runs, each with its first block and how many it has.
use Rattle.std.specs.Prelude.{ℕ, ◌+◌, ◌≤◌, List, [], ◌∷◌, flat_map}
use Rattle.std.specs.List.{range_with_len}

-- all blocks of runs
abbrev pub blocks_of : List (ℕ × ℕ) → List ℕ
blocks_of runs = flat_map (λ run. range_with_len run.0 run.1) runs

-- blocks from one on that rise, each once
abbrev pub AreRising : ℕ → List ℕ → Type 0
AreRising least [] = Unit {0}
AreRising least (block ∷ blocks) = (least ≤ block) × AreRising (block + 1) blocks
