use Rattle.std.proofs.Common.{◌∙◌, arith}
use Rattle.std.proofs.lemmas.Result.{err_from_is_err_and}
use Rattle.xn_changes.specs.Decoded.{decoded_all}
use Rattle.xn_transactions.proofs.DecodingLemmas.{decoded-all, decoded-fault, decoded-more, decoded-none}
use Rattle.xn_transactions.proofs.decode.decode_all.Goals as goal

pub loop-whole-init : goal.loop-whole-init
loop-whole-init c = rw c.new-committed.ensures.items (decoded-none (decoded_all c.args.wholes.now))

pub returns-in_err-decode : goal.returns-in_err-decode
returns-in_err-decode c =
    let p = err_from_is_err_and c.from_residual.result c.from_residual.ensures.1 in
    let loop = c.loop-whole in
    rw (p.1, p.2, loop.invariant)
    (decoded-fault loop.committed.items c.args.wholes.now loop.whole-index c.whole-item.result _ (omega arith) c.whole-item.is c.in_err-decode.ensures)

pub loop-whole-preserved : goal.loop-whole-preserved
loop-whole-preserved c =
    let loop = c.loop-whole in
    rw c.in_ok-push.ensures.items
    (loop.invariant ∙ decoded-more loop.committed.items c.args.wholes.now loop.whole-index c.whole-item.result _ (omega arith) c.whole-item.is c.in_ok-decode.ensures)

pub returns : goal.returns
returns c =
    let loop = c.loop-whole in
    loop.invariant ∙ decoded-all loop.committed.items c.args.wholes.now loop.whole-index (omega arith)
