-- A pool: its blocks and those of them that are free, both rising; and what it says that one is made of runs, or isn't.
use Rattle.std.specs.Prelude.{◌≡◌, ◌↔◌, ℕ, ◌^◌, ◌<◌, ◌≤◌, Bool, List, [], ◌∷◌, length, take, All, Any, Contains, IsSomeAnd, slice_get, if◌then◌else◌}
use Rattle.std.specs.List.{AllAdjacentBelow}
use Rattle.xn_bytes.specs.Superblock.{Geometry}
use Rattle.xn_bytes.specs.Blocks.{IsHome}
use Rattle.xn_meaning.specs.Manifests.{RunHas}
use Rattle.xn_pool.specs.Blocks.{AreRising}

-- all blocks, and the free ones
pub record PoolState : Type 0 where
  pub blocks : List ℕ
  pub free : List ℕ

-- the blocks whose flags are true
abbrev pub selected : List ℕ → List Bool → List ℕ
selected [] flags = []
selected (block ∷ blocks) [] = []
selected (block ∷ blocks) (flag ∷ flags) = if flag then block ∷ selected blocks flags else selected blocks flags

-- each block has its flag, and so many flags are true
pub record AreFlagged (blocks : List ℕ) (flags : List Bool) (free : ℕ) : Type 0 where
  pub long : length flags ≡ length blocks
  pub few : length blocks ≤ 2 ^ 56
  pub rising : AreRising 0 blocks
  pub count : free ≡ length (selected blocks flags)

-- the pool of runs, all free
pub record IsPoolOf (g : Geometry) (runs : List (ℕ × ℕ)) (pool : PoolState) : Type 0 where
  pub has : (block : ℕ) → Contains pool.blocks block ↔ Any (RunHas block) runs
  pub rising : AllAdjacentBelow (λ a b. a < b) pool.blocks (length pool.blocks)
  pub home : All (IsHome g) pool.blocks
  pub free : pool.free ≡ pool.blocks

-- a fork may map each block of a run
abbrev pub IsHomeRun : Geometry → ℕ × ℕ → Type 0
IsHomeRun g run = (block : ℕ) → RunHas block run → IsHome g block

-- the first run of which a fork may not map each block
pub record IsFirstForeign (g : Geometry) (runs : List (ℕ × ℕ)) (at : ℕ) : Type 0 where
  pub foreign : IsSomeAnd (slice_get runs at) (λ run. ¬ IsHomeRun g run)
  pub front : All (IsHomeRun g) (take at runs)
