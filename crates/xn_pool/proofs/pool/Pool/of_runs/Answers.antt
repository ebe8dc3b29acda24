use Rattle.std.proofs.Common.{ℕ, List, ap, ◌∙◌}
use Rattle.xn_pool.proofs.PoolSteps.{all_flagged}
use Rattle.xn_pool.proofs.pool.Pool.of_runs.Goals as goal

pub invariant_of-result : goal.invariant_of-result
invariant_of-result c = (all_flagged _ _ _ c.count-free.ensures.rising c.count-free.ensures.few c.count-free.ensures.count c.in_ok-bits.ensures).0

pub returns-clause-blocks : goal.returns-clause-blocks
returns-clause-blocks c =
    let all = (all_flagged _ _ _ c.count-free.ensures.rising c.count-free.ensures.few c.count-free.ensures.count c.in_ok-bits.ensures).1 in
    ap (λ (free : List ℕ). record { blocks = c.in_ok-runs.runs; free = free }) all
    ∙ ap (λ (blocks : List ℕ). record { blocks = blocks; free = blocks }) c.in_ok-runs.ensures
