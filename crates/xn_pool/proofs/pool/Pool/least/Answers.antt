use Rattle.std.proofs.Common.{true, sym, ap, subst, ◌∙◌, arith}
use Rattle.std.proofs.lemmas.Option.{slice_get_within}
use Rattle.xn_inode.specs.Stores.{IsLeast}
use Rattle.xn_pool.specs.Pools.{PoolState}
use Rattle.xn_pool.proofs.FlaggedBlocks.{some_flag, least_selected}
use Rattle.xn_pool.proofs.pool.Pool.least.Goals as goal

pub least-requires : goal.least-requires
least-requires c = some_flag c.self.inside.runs c.self.inside.bits (λ none. c.requires (ap (λ (p : PoolState). p.free) (sym c.self.view_is) ∙ none))

pub block_at-requires : goal.block_at-requires
block_at-requires c = omega (arith, slice_get_within c.self.inside.bits c.least.result true c.least.ensures.there, c.self.invariant.long)

pub returns : goal.returns
returns c = subst (λ (p : PoolState). IsLeast p.free c.block_at.result) c.self.view_is (least_selected _ _ _ _ c.self.invariant.rising c.least.ensures c.block_at.ensures)
