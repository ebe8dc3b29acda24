use Rattle.std.proofs.Common.{◌<◌, List, ℕ, length, sym, ap, subst, ◌∙◌, arith}
use Rattle.std.specs.Prelude.{slice_get}
use Rattle.std.specs.List.Sorted.{IsNonDecreasingBy}
use Rattle.xn_pool.specs.declared.runs.Start.{Start}
use Rattle.xn_pool.specs.Starts.{IsSplit}
use Rattle.xn_pool.proofs.RunSearches.{length-blocks_from}
use Rattle.xn_pool.proofs.RunSplits.{positions_sorted, some_run, block_found}
use Rattle.xn_pool.proofs.runs.Runs.block_at.Goals as goal

pub started_by_position-next-requires : goal.started_by_position-next-requires
started_by_position-next-requires c =
    subst (λ (starts : List Start). IsNonDecreasingBy (λ (s : Start). s.position) starts) (sym c.deref.ensures.value) (positions_sorted _ _ _ _ c.self.invariant.0)

pub overflow_sub-next : goal.overflow_sub-next
overflow_sub-next c =
    let low : c.args.position < c.self.inside.count = omega (arith, length-blocks_from _ _ _ _ c.self.invariant.0, ap length c.self.view_is) in
    some_run _ _ _ _ c.self.invariant.0 low (subst (λ (starts : List Start). IsSplit (λ (s : Start). s.position) starts c.args.position c.started_by_position-next.result) c.deref.ensures.value c.started_by_position-next.ensures)

pub overflow_sub-result : goal.overflow_sub-result
overflow_sub-result c =
    let low : c.args.position < c.self.inside.count = omega (arith, length-blocks_from _ _ _ _ c.self.invariant.0, ap length c.self.view_is) in
    (block_found _ _ _ _ _ c.self.invariant.0 low (subst (λ (starts : List Start). IsSplit (λ (s : Start). s.position) starts c.args.position c.started_by_position-next.result) c.deref.ensures.value c.started_by_position-next.ensures) c.index-start.ensures).from

pub overflow_add-result : goal.overflow_add-result
overflow_add-result c =
    let low : c.args.position < c.self.inside.count = omega (arith, length-blocks_from _ _ _ _ c.self.invariant.0, ap length c.self.view_is) in
    let found = block_found _ _ _ _ _ c.self.invariant.0 low (subst (λ (starts : List Start). IsSplit (λ (s : Start). s.position) starts c.args.position c.started_by_position-next.result) c.deref.ensures.value c.started_by_position-next.ensures) c.index-start.ensures in
    omega (arith, found.small)

pub returns : goal.returns
returns c =
    let low : c.args.position < c.self.inside.count = omega (arith, length-blocks_from _ _ _ _ c.self.invariant.0, ap length c.self.view_is) in
    let found = block_found _ _ _ _ _ c.self.invariant.0 low (subst (λ (starts : List Start). IsSplit (λ (s : Start). s.position) starts c.args.position c.started_by_position-next.result) c.deref.ensures.value c.started_by_position-next.ensures) c.index-start.ensures in
    ap (λ (blocks : List ℕ). slice_get blocks c.args.position) (sym c.self.view_is) ∙ found.there
