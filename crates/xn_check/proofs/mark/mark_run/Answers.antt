use Rattle.std.proofs.Common.{arith, refl}
use Rattle.xn_check.proofs.MarkLemmas.{none_used, one_used, only_free, run_used}
use Rattle.xn_check.proofs.mark.mark_run.Goals as goal

pub loop-block-init : goal.loop-block-init
loop-block-init c = (none_used c.args.view.now.free c.args.run.block, refl)

pub loop-block-preserved : goal.loop-block-preserved
loop-block-preserved c = (
  one_used c.args.view.now.free c.loop-block.view.free c.mark_used.new.self.free c.args.run.block c.loop-block.block c.loop-block.auto.block c.loop-block.invariant.0 c.mark_used.ensures.free,
  only_free c.args.view.now c.loop-block.view c.mark_used.new.self c.loop-block.invariant.1 c.mark_used.ensures.others,
)

pub returns-clause-free : goal.returns-clause-free
returns-clause-free c =
    run_used c.args.view.now.free c.loop-block.view.free c.args.run c.saturating_add-block-end.result 18446744073709551615 9223372036854775808 c.loop-block.block
    c.requires (omega arith) c.saturating_add-block-end.ensures c.loop-block-test.false c.loop-block.auto.block-end c.loop-block.invariant.0
