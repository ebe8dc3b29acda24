-- What it says that no pool was made.
use Rattle.std.specs.Prelude.{ℕ, List}
use Rattle.xn_bytes.specs.Superblock.{Geometry}
use Rattle.xn_pool.specs.declared.fault.PoolFault.{PoolFault}
use Rattle.xn_pool.specs.declared.fault.PoolFault.TheVariants.{Range, Memory}
use Rattle.xn_pool.specs.Pools.{IsFirstForeign}

-- a fault names the first run that isn't in its place, or says that memory ran out
abbrev pub NotMade : Geometry → List (ℕ × ℕ) → PoolFault → Type 0
NotMade g runs (Range at) = IsFirstForeign g runs at
NotMade g runs Memory = Unit {0}
