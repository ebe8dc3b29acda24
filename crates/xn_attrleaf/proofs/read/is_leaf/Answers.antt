use Rattle.std.proofs.Common.{sym, ◌∙◌}
use Rattle.xn_attrleaf.proofs.LeafRead.{leaf_from, framed_to, places_to, indexed_to}
use Rattle.xn_attrleaf.proofs.read.is_leaf.Goals as goal
use Rattle.xn_attrleaf.proofs.read.is_leaf.Goals.{then-is_framed, else-is_framed}

pub returns-then-is_filled : goal.returns-then-is_filled
returns-then-is_filled c =
    let bytes = c.args.block.now in
    elim c.if-is_framed.branch [
      | then-is_framed w ↦ (
        λ indexed.
            leaf_from bytes c.requires (λ i. (c.type_inv.block i).fits) (c.is_framed.ensures.0 w.if-is_framed.true) (w.is_filled.ensures.0 (sym w.value-is ∙ c.if-is_filled.true)) (c.is_indexed.ensures.0 indexed),
        λ leaf. c.is_indexed.ensures.1 (indexed_to bytes leaf),
      )
      | else-is_framed w ↦ absurd cc
    ]

pub returns-else-is_filled : goal.returns-else-is_filled
returns-else-is_filled c =
    let bytes = c.args.block.now in
    elim c.if-is_framed.branch [
      | then-is_framed w ↦ (
        λ true. absurd cc,
        λ leaf. w.value-is ∙ w.is_filled.ensures.1 (places_to bytes leaf),
      )
      | else-is_framed w ↦ (
        λ true. absurd cc,
        λ leaf. let framed = c.is_framed.ensures.1 (framed_to bytes leaf) in absurd cc,
      )
    ]
