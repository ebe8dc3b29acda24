use Rattle.std.proofs.Common.{length, ap, subst, arith}
use Rattle.xn_pool.specs.Blocks.{AreRising}
use Rattle.xn_pool.proofs.RunSearches.{starts_rise, length-blocks_from}
use Rattle.xn_pool.proofs.runs.Runs.count.Goals as goal

pub returns-clause-count : goal.returns-clause-count
returns-clause-count c = omega (arith, length-blocks_from _ _ _ _ c.self.invariant.0, ap length c.self.view_is)

pub returns-clause-rising : goal.returns-clause-rising
returns-clause-rising c = subst (AreRising 0) c.self.view_is (starts_rise _ _ _ _ c.self.invariant.0)
