use Rattle.std.proofs.Common.{◌≡◌, ◌+◌, ◌-◌, ℕ, List, Option, Some, refl, sym, subst, ◌∙◌, arith}
use Rattle.std.specs.Prelude.{MatchOption, Contains, slice_get}
use Rattle.std.specs.List.Sorted.{IsNonDecreasingBy}
use Rattle.xn_pool.specs.declared.runs.Start.{Start}
use Rattle.xn_pool.specs.Starts.{IsSplit}
use Rattle.xn_pool.proofs.RunSplits.{blocks_sorted, no_run, run_before}
use Rattle.xn_pool.proofs.runs.Runs.position_of.Goals as goal

pub started_by_block-next-requires : goal.started_by_block-next-requires
started_by_block-next-requires c =
    subst (λ (starts : List Start). IsNonDecreasingBy (λ (s : Start). s.block) starts) (sym c.deref.ensures.value) (blocks_sorted _ _ _ _ c.self.invariant.0)

pub returns-in_err-checked_sub : goal.returns-in_err-checked_sub
returns-in_err-checked_sub c =
    let none : c.started_by_block-next.result ≡ 0 = omega (arith, c.in_err-checked_sub.ensures) in
    let split = subst (λ (starts : List Start). IsSplit (λ (s : Start). s.block) starts c.args.block c.started_by_block-next.result) c.deref.ensures.value c.started_by_block-next.ensures in
    let at_first = subst (IsSplit (λ (s : Start). s.block) c.self.inside.starts.items c.args.block) none split in
    let lacks = no_run _ _ c.args.block c.self.invariant.0 at_first in
    subst (λ (o : Option ℕ). MatchOption o (Contains c.args.self.now c.args.block → ⊥) (λ position. slice_get c.args.self.now position ≡ Some c.args.block)) (sym c.from_residual.ensures)
    (subst (λ (blocks : List ℕ). Contains blocks c.args.block → ⊥) c.self.view_is lacks)

pub overflow_sub-offset : goal.overflow_sub-offset
overflow_sub-offset c =
    let split = subst (λ (starts : List Start). IsSplit (λ (s : Start). s.block) starts c.args.block c.started_by_block-next.result) c.deref.ensures.value c.started_by_block-next.ensures in
    (run_before _ _ c.self.inside.count _ _ _ _ _ refl c.self.invariant.0 split c.in_ok-checked_sub.ensures c.index-start.ensures refl).0.from

pub overflow_sub-position_at : goal.overflow_sub-position_at
overflow_sub-position_at c =
    let split = subst (λ (starts : List Start). IsSplit (λ (s : Start). s.block) starts c.args.block c.started_by_block-next.result) (c.deref.ensures.value ∙ sym c.deref-2.ensures.value) c.started_by_block-next.ensures in
    let run = run_before _ _ c.self.inside.count _ _ _ _ _ c.deref-2.ensures.value c.self.invariant.0 split c.in_ok-checked_sub.ensures c.index-start.ensures c.position_at.ensures in
    omega (arith, run.0.ends, run.1)

pub returns-then-offset-position_at : goal.returns-then-offset-position_at
returns-then-offset-position_at c =
    let split = subst (λ (starts : List Start). IsSplit (λ (s : Start). s.block) starts c.args.block c.started_by_block-next.result) (c.deref.ensures.value ∙ sym c.deref-2.ensures.value) c.started_by_block-next.ensures in
    let run = run_before _ _ c.self.inside.count _ _ _ _ _ c.deref-2.ensures.value c.self.invariant.0 split c.in_ok-checked_sub.ensures c.index-start.ensures c.position_at.ensures in
    let place : ℕ = c.index-start.result.now.position + (c.args.block - c.index-start.result.now.block) in
    subst (λ (blocks : List ℕ). slice_get blocks place ≡ Some c.args.block) c.self.view_is (run.0.has (omega (arith, run.1, c.if-offset-position_at.true)))

pub returns-else-offset-position_at : goal.returns-else-offset-position_at
returns-else-offset-position_at c =
    let split = subst (λ (starts : List Start). IsSplit (λ (s : Start). s.block) starts c.args.block c.started_by_block-next.result) (c.deref.ensures.value ∙ sym c.deref-2.ensures.value) c.started_by_block-next.ensures in
    let run = run_before _ _ c.self.inside.count _ _ _ _ _ c.deref-2.ensures.value c.self.invariant.0 split c.in_ok-checked_sub.ensures c.index-start.ensures c.position_at.ensures in
    subst (λ (blocks : List ℕ). Contains blocks c.args.block → ⊥) c.self.view_is (run.0.lacks (omega (arith, run.1, c.if-offset-position_at.false)))
