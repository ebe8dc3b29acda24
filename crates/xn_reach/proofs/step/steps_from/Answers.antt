use Rattle.std.proofs.Common.{rules, ◌≤◌}
use Rattle.xn_reach.proofs.StepRuns.{points_in_order, steps_between}
use Rattle.xn_reach.proofs.step.steps_from.Goals as goal

pub slice_bounds-result-count : goal.slice_bounds-result-count
slice_bounds-result-count c = points_in_order c.args.steps.now c.args.number _ _ c.count_below-first.ensures.bound c.count_below-first.ensures.point c.count_up_to-behind.ensures.point

pub slice_bounds-result-start : goal.slice_bounds-result-start
slice_bounds-result-start c =
    let order : c.count_below-first.result ≤ c.count_up_to-behind.result = points_in_order c.args.steps.now c.args.number _ _ c.count_below-first.ensures.bound c.count_below-first.ensures.point c.count_up_to-behind.ensures.point in
    search rules

pub returns : goal.returns
returns c = λ next.
    steps_between c.args.steps.now c.args.number _ _ next
    (points_in_order c.args.steps.now c.args.number _ _ c.count_below-first.ensures.bound c.count_below-first.ensures.point c.count_up_to-behind.ensures.point)
    c.count_up_to-behind.ensures.bound c.count_below-first.ensures.point c.count_up_to-behind.ensures.point
