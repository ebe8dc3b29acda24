use Rattle.std.proofs.Common.{ap, sym, ◌∙◌, arith, drop, slice_index}
use Rattle.xn_bytes.specs.ShortAttributes.{attributes_in}
use Rattle.xn_bytes.specs.AttributeRoom.{short_size_of}
use Rattle.xn_attrleaf.proofs.ShortEnds.{has_no_fault}
use Rattle.xn_attrleaf.proofs.ShortAttributesForms.{size_of_all}
use Rattle.xn_attrleaf.proofs.short.ShortAttrs.size.Goals as goal

pub u16_at-requires : goal.u16_at-requires
u16_at-requires c = omega (arith, (has_no_fault c.self.inside.fork.now c.self.invariant).long)

pub returns : goal.returns
returns c =
    let fork = c.self.inside.fork.now in
    c.from.ensures ∙ c.u16_at.ensures ∙ (has_no_fault fork c.self.invariant).size
    ∙ sym (size_of_all (attributes_in (slice_index fork 2) (drop 4 fork)))
    ∙ ap short_size_of c.self.view_is
