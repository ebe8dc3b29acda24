use Rattle.std.proofs.Common.{arith}
use Rattle.xn_facts.proofs.RunLists.{run_added}
use Rattle.xn_facts.proofs.runs.add_runs.Goals as goal

pub loop-at-preserved : goal.loop-at-preserved
loop-at-preserved c =
    rw c.in_ok-push.ensures.items (run_added c.args.runs.now.items c.loop-at.runs.items c.args.extents.now c.loop-at.at
    (record { file_block = c.run-file_block.result.0; block = c.run-file_block.result.1; count = c.run-file_block.result.2 })
    (omega (arith, c.loop-at-test.true, c.count-at-end.ensures.count)) c.run-file_block.ensures.run c.loop-at.invariant)
