use Rattle.std.proofs.Common.{◌++◌, take, append_assoc, arith}
use Rattle.xn_changes.specs.Transactions.{placed_from}
use Rattle.xn_transactions.proofs.WalkLemmas.{placed_from-more}
use Rattle.xn_transactions.proofs.walk.Walk.take_record.Goals as goal

pub loop-k-preserved : goal.loop-k-preserved
loop-k-preserved c = λ done h.
    let lsn = c.lsn_of-lsn.result in
    let ops = c.as_slice-op-items.result.now in
    let k = c.loop-k.k in
    let before = placed_from lsn 0 (take k ops) in
    let walked = c.in_ok-take.ensures (done ++ before) (c.loop-k.invariant done h) in
    let more = placed_from-more lsn k ops c.op-item.result (omega arith) c.op-item.is in
    rw more (rw (append_assoc, c.in_ok-number_of.ensures) at walked)
