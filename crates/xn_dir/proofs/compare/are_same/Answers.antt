use Rattle.std.proofs.Common.{sym, ◌∙◌}
use Rattle.std.proofs.lemmas.List.Sorted.{IsPermutation-refl}
use Rattle.xn_dir.proofs.Comparing.{same_sorted}
use Rattle.xn_dir.proofs.compare.are_same.Goals as goal

pub returns : goal.returns
returns c =
    let tells =
    same_sorted c.args.wanted.now c.args.live.items c.args.wanted.now c.in_order.result.items (IsPermutation-refl c.args.wanted.now) c.in_order.ensures.same c.requires
    c.in_order.ensures.sorted in (
      λ t. tells.0 (c.are_equal.ensures.0 t ∙ c.deref.ensures.value),
      λ moved. c.are_equal.ensures.1 (tells.1 moved ∙ sym c.deref.ensures.value),
    )
