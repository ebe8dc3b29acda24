use Rattle.std.proofs.Common.{◌≡◌, ℕ, Option, Some, true, sym, subst, arith}
use Rattle.std.specs.Prelude.{MatchOption, Contains, slice_get}
use Rattle.std.proofs.lemmas.Option.{slice_get_within}
use Rattle.xn_pool.specs.Pools.{selected}
use Rattle.xn_pool.proofs.PoolSteps.{not_selected, none_selected}
use Rattle.xn_pool.proofs.pool.free_position.Goals as goal

pub returns-in_err-position : goal.returns-in_err-position
returns-in_err-position c =
    subst (λ (o : Option ℕ). MatchOption o (Contains (selected c.args.runs.now c.args.bits.now) c.args.block → ⊥) (λ position. (slice_get c.args.runs.now position ≡ Some c.args.block) × (slice_get c.args.bits.now position ≡ Some true)))
    (sym c.from_residual.ensures) (none_selected _ _ _ c.in_err-position.ensures)

pub has-requires : goal.has-requires
has-requires c = omega (arith, slice_get_within c.args.runs.now c.in_ok-position.position c.args.block c.in_ok-position.ensures, c.requires.long)

pub returns-else-has : goal.returns-else-has
returns-else-has c = not_selected _ _ _ _ c.requires.rising c.in_ok-position.ensures c.if-has.ensures
