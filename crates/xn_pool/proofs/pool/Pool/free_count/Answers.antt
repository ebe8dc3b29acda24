use Rattle.std.proofs.Common.{subst}
use Rattle.xn_inode.specs.Stores.{AreFree}
use Rattle.xn_pool.specs.Pools.{PoolState}
use Rattle.xn_pool.proofs.FlaggedBlocks.{are_free}
use Rattle.xn_pool.proofs.pool.Pool.free_count.Goals as goal

pub returns-clause-set : goal.returns-clause-set
returns-clause-set c = subst (λ (p : PoolState). AreFree p.blocks p.free) c.self.view_is (are_free _ _ c.self.invariant.rising)
