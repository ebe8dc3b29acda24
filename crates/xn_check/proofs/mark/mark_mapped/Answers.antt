use Rattle.std.proofs.Common.{◌<◌, ℕ, refl}
use Rattle.xn_check.proofs.MarkLemmas.{none_unmapped, one_unmapped, all_unmapped, only_free, still_small}
use Rattle.xn_check.proofs.mark.mark_mapped.Goals as goal

pub loop-run-init : goal.loop-run-init
loop-run-init c = (none_unmapped c.args.view.now.free c.args.runs.now, refl)

pub mark_run-requires : goal.mark_run-requires
mark_run-requires c =
    still_small (λ (block : ℕ). block < 9223372036854775808) c.args.view.now.free c.loop-run.view.free c.requires (λ block has. ((c.loop-run.invariant.0 block).0 has).0)

pub loop-run-preserved : goal.loop-run-preserved
loop-run-preserved c = (
  one_unmapped c.args.view.now.free c.loop-run.view.free c.mark_run.new.view.free c.args.runs.now c.loop-run.run-index (record { file_block = 0; block = 0; count = 0 }) c.loop-run-test.true c.loop-run.invariant.0 c.mark_run.ensures.free,
  only_free c.args.view.now c.loop-run.view c.mark_run.new.view c.loop-run.invariant.1 c.mark_run.ensures.others,
)

pub returns-clause-free : goal.returns-clause-free
returns-clause-free c =
    all_unmapped c.args.view.now.free c.loop-run.view.free c.args.runs.now c.loop-run.run-index c.loop-run.auto.run-index-end c.loop-run-test.false c.loop-run.invariant.0
