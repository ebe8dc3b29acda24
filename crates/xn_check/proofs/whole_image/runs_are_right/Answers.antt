use Rattle.std.proofs.Common.{◌≡◌, false, true, refl, sym, ◌∙◌}
use Rattle.xn_check.proofs.RunLemmas.{map_once, spans_apart, spans_clear}
use Rattle.xn_check.proofs.whole_image.runs_are_right.Goals.{then-are_apart, else-are_apart}
use Rattle.xn_check.proofs.whole_image.runs_are_right.Goals as goal

pub returns : goal.returns
returns c =
    let live = c.args.live.now in
    let runs = c.args.runs.now in
    let spans = c.in_order-spans.result.items in
    let blocks = c.in_ok-blocks.blocks.items in
    let same = rw c.in_ok-spans_of.ensures at c.in_order-spans.ensures.same in
    let stand = c.in_ok-blocks.ensures.blocks in
    elim c.if-are_apart.branch [
      | then-are_apart w ↦ (
        λ is. map_once live runs spans blocks same stand
            (rw c.deref.ensures.value at (w.if-are_apart.ensures.0 refl))
            (rw (w.deref-then-are_apart.ensures.value, w.deref-then-are_apart-2.ensures.value) at (w.are_clear.ensures.0 (sym w.result-is ∙ is))),
        λ right. w.result-is ∙ w.are_clear.ensures.1 (rw (w.deref-then-are_apart.ensures.value, w.deref-then-are_apart-2.ensures.value) (spans_clear live runs spans blocks same stand right)),
      )
      | else-are_apart w ↦ (
        λ is. let no : false ≡ true = sym (w.result-is ∙ w.if-are_apart.false) ∙ is in absurd cc,
        λ right. let no : false ≡ true = w.if-are_apart.ensures.1 (rw c.deref.ensures.value (spans_apart live runs spans blocks same stand right)) in cc,
      )
    ]
