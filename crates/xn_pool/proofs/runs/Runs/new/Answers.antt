use Rattle.std.proofs.Common.{ℕ, ◌<◌, length, get_or, arith}
use Rattle.std.proofs.lemmas.List.{get_or_default}
use Rattle.xn_pool.proofs.RunsHeld.{one_more_fits, one_more_held, all_held, all_blocks}
use Rattle.xn_pool.proofs.runs.Runs.new.Goals as goal

pub overflow_add-count : goal.overflow_add-count
overflow_add-count c =
    let none : ℕ × ℕ = (0, 0) in
    let run : ℕ × ℕ = get_or c.args.runs.now c.loop-block.block-index none in
    let low : c.loop-block.block-index < length c.args.runs.now = omega arith in
    omega (arith, one_more_fits c.args.runs.now c.loop-block.block-index c.loop-block.count _ run c.requires c.loop-block.invariant low (get_or_default c.args.runs.now c.loop-block.block-index none run low))

pub loop-block-preserved : goal.loop-block-preserved
loop-block-preserved c =
    let none : ℕ × ℕ = (0, 0) in
    let run : ℕ × ℕ = get_or c.args.runs.now c.loop-block.block-index none in
    let low : c.loop-block.block-index < length c.args.runs.now = omega arith in
    one_more_held c.args.runs.now c.loop-block.block-index c.loop-block.count _ _ run c.loop-block.invariant low (get_or_default c.args.runs.now c.loop-block.block-index none run low) c.in_ok-push.ensures.items

pub invariant_of-result : goal.invariant_of-result
invariant_of-result c = all_held _ _ _ _ c.requires c.loop-block.invariant (omega arith)

pub returns : goal.returns
returns c = all_blocks _ _ _ _ c.loop-block.invariant (omega arith)
