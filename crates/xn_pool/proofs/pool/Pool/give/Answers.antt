use Rattle.std.proofs.Common.{◌+◌, Bool, List, true, set, sym, subst, arith}
use Rattle.xn_inode.specs.Stores.{IsGiven}
use Rattle.xn_pool.specs.Pools.{PoolState, AreFlagged, selected}
use Rattle.xn_pool.proofs.FlaggedBlocks.{set_gives, nothing_given, in_selected}
use Rattle.xn_pool.proofs.PoolSteps.{flag_set}
use Rattle.xn_pool.proofs.pool.Pool.give.Goals as goal

pub overflow_add-self : goal.overflow_add-self
overflow_add-self c = omega (arith, (flag_set _ _ _ _ _ c.self.invariant c.in-Some.ensures c.if-not-has.ensures).0)

pub invariant_of-self : goal.invariant_of-self
invariant_of-self c =
    subst (λ (flags : List Bool). AreFlagged c.self.inside.runs flags (c.self.inside.free + 1)) (sym c.put.ensures)
    (flag_set _ _ _ _ _ c.self.invariant c.in-Some.ensures c.if-not-has.ensures).1

pub returns-then-not-has-clause-given : goal.returns-then-not-has-clause-given
returns-then-not-has-clause-given c =
    subst (λ (flags : List Bool). IsGiven c.args.self.now.blocks c.args.self.now.free (selected c.self.inside.runs flags) c.args.block) (sym c.put.ensures)
    (subst (λ (p : PoolState). IsGiven p.blocks p.free (selected c.self.inside.runs (set c.self.inside.bits c.in-Some.position true)) c.args.block) c.self.view_is
    (set_gives _ _ _ _ c.in-Some.ensures c.if-not-has.ensures))

pub returns-else-not-has-clause-given : goal.returns-else-not-has-clause-given
returns-else-not-has-clause-given c =
    subst (λ (p : PoolState). IsGiven p.blocks p.free p.free c.args.block) c.self.view_is
    (nothing_given c.self.inside.runs _ c.args.block (λ has. in_selected c.self.inside.runs c.self.inside.bits _ _ c.in-Some.ensures c.if-not-has.ensures))
