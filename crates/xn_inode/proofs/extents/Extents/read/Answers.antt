use Rattle.std.proofs.Common.{arith}
use Rattle.xn_bytes.proofs.TestLemmas.{holds, fails}
use Rattle.xn_inode.proofs.Records.{read_step, read_bad, read_all}
use Rattle.xn_inode.proofs.extents.Extents.read.Goals as goal

pub returns-then-not-is_record : goal.returns-then-not-is_record
returns-then-not-is_record c = read_bad _ _ _ _ _ _ c.loop-at.invariant (omega arith) (fails c.if-not-is_record.ensures)

pub loop-at-preserved : goal.loop-at-preserved
loop-at-preserved c =
    read_step _ _ _ _ _ _ _ _ _ _ c.loop-at.invariant (holds c.if-not-is_record.ensures) c.read_run-run.ensures c.end-least.ensures c.after_record-rest.ensures c.in_ok-push.ensures.items

pub invariant_of-result : goal.invariant_of-result
invariant_of-result c = let all = read_all _ _ _ _ _ _ c.loop-at.invariant (omega arith) in all.2

pub returns : goal.returns
returns c = let all = read_all _ _ _ _ _ _ c.loop-at.invariant (omega arith) in (all.0, all.1)
