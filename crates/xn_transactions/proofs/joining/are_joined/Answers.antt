use Rattle.std.proofs.Common.{sym, ◌∙◌, arith}
use Rattle.xn_transactions.proofs.JoiningLemmas.{alike, are_joined-all, are_joined-more, are_joined-stops, unlike}
use Rattle.xn_transactions.proofs.joining.are_joined.Goals as goal

pub returns-then-was_continued-continued : goal.returns-then-was_continued-continued
returns-then-was_continued-continued c =
    let loop = c.loop-part in
    sym (loop.invariant ∙ are_joined-stops loop.continued c.args.parts.now loop.part-index c.part-item.result (omega arith) c.part-item.is
    (λ e. unlike c.was_continued.result loop.continued c.if-was_continued-continued.true (c.was_continued.ensures ∙ e)))

pub loop-part-preserved : goal.loop-part-preserved
loop-part-preserved c =
    let loop = c.loop-part in
    let goes = sym c.was_continued.ensures ∙ alike c.was_continued.result loop.continued c.if-was_continued-continued.false in
    rw c.continues-continued.ensures
    (loop.invariant ∙ are_joined-more loop.continued c.args.parts.now loop.part-index c.part-item.result (omega arith) c.part-item.is goes)

pub returns : goal.returns
returns c =
    let loop = c.loop-part in
    sym (loop.invariant ∙ are_joined-all loop.continued c.args.parts.now loop.part-index (omega arith))
