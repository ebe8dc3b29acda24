use Rattle.std.proofs.Common.{subst}
use Rattle.std.specs.Prelude.{◌↔◌, IsTrue, Contains}
use Rattle.xn_pool.specs.Pools.{PoolState}
use Rattle.xn_pool.proofs.PoolSteps.{free_told}
use Rattle.xn_pool.proofs.pool.Pool.is_free.Goals as goal

pub returns : goal.returns
returns c =
    subst (λ (p : PoolState). IsTrue c.is_some.result ↔ Contains p.free c.args.block) c.self.view_is
    (free_told c.free_position.result c.is_some.result c.self.inside.runs c.self.inside.bits c.args.block c.is_some.ensures c.free_position.ensures)
