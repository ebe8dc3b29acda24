use Rattle.std.proofs.Common.{sym, ◌∙◌, arith}
use Rattle.xn_transactions.proofs.PieceLemmas.{cover-more, cover-stops, cover-all}
use Rattle.xn_transactions.proofs.pieces.cover.Goals as goal

pub returns-in-None : goal.returns-in-None
returns-in-None c =
    let loop = c.loop-region in
    let uncovered = rw c.bytes.ensures at c.in-None.ensures in
    sym (loop.invariant ∙ cover-stops loop.region-index c.args.regions.now c.region-item.result loop.left.now (omega arith) c.region-item.is uncovered)

pub loop-region-preserved : goal.loop-region-preserved
loop-region-preserved c =
    let loop = c.loop-region in
    let covered = rw c.bytes.ensures at c.in-Some.ensures in
    rw covered.1
    (loop.invariant ∙ cover-more loop.region-index c.args.regions.now c.region-item.result loop.left.now (omega arith) c.region-item.is covered.0)

pub returns : goal.returns
returns c =
    let loop = c.loop-region in
    c.is_empty.ensures ∙ sym (loop.invariant ∙ cover-all loop.region-index c.args.regions.now loop.left.now (omega arith))
