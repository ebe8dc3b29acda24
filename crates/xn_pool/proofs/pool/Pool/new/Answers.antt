use Rattle.xn_pool.proofs.HomeRuns.{pool_made}
use Rattle.xn_pool.proofs.pool.Pool.new.Goals as goal

pub returns : goal.returns
returns c = pool_made _ _ _ c.in_default.ensures c.in_ok-of_runs.ensures.blocks c.in_ok-of_runs.ensures.rising
