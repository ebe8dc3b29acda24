use Rattle.std.proofs.Common.{arith}
use Rattle.xn_pool.proofs.Levels.{next_level}
use Rattle.xn_pool.proofs.bits.first_leaf_of.Goals as goal

pub loop-first-preserved : goal.loop-first-preserved
loop-first-preserved c = record { level = next_level _ c.loop-first.invariant.level; small = omega arith }
