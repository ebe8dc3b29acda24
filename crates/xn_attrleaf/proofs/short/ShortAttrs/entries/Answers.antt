use Rattle.std.proofs.Common.{ℕ, List, ap, ◌∙◌, arith, map, slice_index}
use Rattle.std.proofs.lemmas.List.{take_rest}
use Rattle.xn_bytes.specs.ShortAttributes.{attribute_of_short, attributes_in, attributes_there}
use Rattle.xn_attrleaf.proofs.ShortEnds.{has_no_fault}
use Rattle.xn_attrleaf.proofs.short.ShortAttrs.entries.Goals as goal

pub bounds-self-inside-2 : goal.bounds-self-inside-2
bounds-self-inside-2 c = omega (arith, (has_no_fault c.self.inside.fork.now c.self.invariant).long)

pub slice_bounds-new-count : goal.slice_bounds-new-count
slice_bounds-new-count c = (has_no_fault c.self.inside.fork.now c.self.invariant).long

pub slice_bounds-new-start : goal.slice_bounds-new-start
slice_bounds-new-start c = (has_no_fault c.self.inside.fork.now c.self.invariant).long

pub new-requires : goal.new-requires
new-requires c =
    let fork = c.self.inside.fork.now in
    ap (attributes_there (slice_index fork 2)) (take_rest fork 4) ∙ (has_no_fault fork c.self.invariant).there

pub returns : goal.returns
returns c =
    let fork = c.self.inside.fork.now in
    c.new.ensures ∙ ap (λ (t : List ℕ). map attribute_of_short (attributes_in (slice_index fork 2) t)) (take_rest fork 4) ∙ c.self.view_is
