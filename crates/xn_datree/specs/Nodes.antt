-- What the counts of a node are.
use Rattle.std.specs.Prelude.{ℕ, ◌≤◌, List}
use Rattle.xn_bytes.specs.Numbers.{number_at}

-- 1 to 504 children, and a level of 1 or more
pub record HasCounts (bytes : List ℕ) : Type 0 where
  pub some : 1 ≤ number_at 2 56 bytes
  pub few : number_at 2 56 bytes ≤ 504
  pub level : 1 ≤ number_at 2 58 bytes
