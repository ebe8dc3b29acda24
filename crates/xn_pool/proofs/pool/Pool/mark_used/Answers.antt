use Rattle.std.proofs.Common.{◌≡◌, ◌-◌, Bool, List, filter, not, sym, ap, subst, ◌∙◌}
use Rattle.std.specs.Prelude.{◌==◌}
use Rattle.xn_pool.specs.Pools.{PoolState, AreFlagged, selected}
use Rattle.xn_pool.proofs.FlaggedBlocks.{none_filtered, cleared_selected}
use Rattle.xn_pool.proofs.PoolSteps.{flag_cleared}
use Rattle.xn_pool.proofs.pool.Pool.mark_used.Goals as goal

pub overflow_sub-self : goal.overflow_sub-self
overflow_sub-self c = (flag_cleared _ _ _ _ _ c.self.invariant c.in-Some.ensures.0 c.in-Some.ensures.1).0

pub invariant_of-self : goal.invariant_of-self
invariant_of-self c =
    subst (λ (flags : List Bool). AreFlagged c.self.inside.runs flags (c.self.inside.free - 1)) (sym c.remove.ensures)
    (flag_cleared _ _ _ _ _ c.self.invariant c.in-Some.ensures.0 c.in-Some.ensures.1).1

pub returns-in-Some-clause-free : goal.returns-in-Some-clause-free
returns-in-Some-clause-free c =
    ap (selected c.self.inside.runs) c.remove.ensures
    ∙ cleared_selected 0 _ _ _ _ c.self.invariant.rising c.in-Some.ensures.0
    ∙ ap (λ (p : PoolState). filter (λ other. not (other == c.args.block)) p.free) c.self.view_is

pub returns-in_default-clause-free : goal.returns-in_default-clause-free
returns-in_default-clause-free c =
    subst (λ (p : PoolState). p.free ≡ filter (λ other. not (other == c.args.block)) p.free) c.self.view_is (none_filtered c.args.block _ c.in_default.ensures)
