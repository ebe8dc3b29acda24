use Rattle.std.proofs.Common.{◌+◌, [], ◌∷◌, ◌++◌, drop, map, sym, ap, ◌∙◌, append_assoc, arith}
use Rattle.xn_changes.specs.Transactions.{regions_in}
use Rattle.xn_transactions.specs.Viewed.{live_of}
use Rattle.xn_transactions.proofs.JoiningLemmas.{regions_in-all, regions_in-ended, regions_in-going}
use Rattle.xn_transactions.proofs.joining.regions_in.Goals as goal
use Rattle.xn_transactions.proofs.joining.regions_in.Goals.{then-continues, else-continues+in_ok-push}

pub loop-part-preserved : goal.loop-part-preserved
loop-part-preserved c =
    let loop = c.loop-part in
    let parts = c.args.parts.now in
    let done = loop.regions.items in
    elim c.if-continues.branch [
      | then-continues w ↦
          rw (w.regions-is, w.unfinished-is, c.in_ok-region.ensures)
          (loop.invariant ∙ ap (λ rs. done ++ rs) (regions_in-going loop.unfinished parts loop.part-index c.part-item.result (omega arith) c.part-item.is (sym c.continues.ensures ∙ w.if-continues.true)))
      | else-continues+in_ok-push w ↦
          rw (w.regions-is, w.unfinished-is, w.in_ok-push.ensures.items, c.in_ok-region.ensures)
          (loop.invariant
          ∙ ap (λ rs. done ++ rs) (regions_in-ended loop.unfinished parts loop.part-index c.part-item.result (omega arith) c.part-item.is (sym c.continues.ensures ∙ w.if-continues.false))
          ∙ sym (append_assoc done (_ ∷ []) (regions_in (map live_of (drop (loop.part-index + 1) parts)))))
    ]

pub returns : goal.returns
returns c =
    let loop = c.loop-part in
    rw (loop.invariant, regions_in-all loop.unfinished c.args.parts.now loop.part-index (omega arith)) c.with_last.ensures
