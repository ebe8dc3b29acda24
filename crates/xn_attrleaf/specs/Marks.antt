-- Bytes that are marked one by one.
use Rattle.std.specs.Prelude.{◌≡◌, ◌≢◌, ◌⊎◌, ℕ, ◌<◌, ◌≤◌, List, length, slice_index}

-- none of the bytes from a place to another was marked, and now all of them are, and no others are besides
pub record Takes (from to : ℕ) (old new : List ℕ) : Type 0 where
  pub whole : length new ≡ length old
  pub free : (k : ℕ) → from ≤ k → k < to → slice_index old k ≡ 0
  pub marked : (k : ℕ) → from ≤ k → k < to → slice_index new k ≢ 0
  pub others : (k : ℕ) → (k < from) ⊎ (to ≤ k) → slice_index new k ≡ slice_index old k

-- one of them is marked
pub record IsTaken (from to : ℕ) (marks : List ℕ) : Type 0 where
  pub place : ℕ
  pub low : from ≤ place
  pub high : place < to
  pub marked : slice_index marks place ≢ 0
