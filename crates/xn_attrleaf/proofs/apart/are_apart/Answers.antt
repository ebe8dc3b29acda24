use Rattle.std.proofs.Common.{refl, ap, arith}
use Rattle.xn_bytes.specs.AttributeLeaves.{AttrEntry}
use Rattle.xn_attrleaf.specs.EntriesRead.{entry_head, entry_inside}
use Rattle.xn_attrleaf.proofs.Marking.{none_marked, more_marked, overlaps, all_apart}
use Rattle.xn_attrleaf.proofs.apart.are_apart.Goals as goal

pub loop-index-init : goal.loop-index-init
loop-index-init c = none_marked c.args.block.now _ refl

pub name_size-requires-clause-head : goal.name_size-requires-clause-head
name_size-requires-clause-head c =
    entry_head c.args.block.now c.loop-index.index c.entry_in-entry.result c.requires.within (omega (arith, c.count_in-index-end.ensures.count)) c.entry_in-entry.ensures

pub take-requires-clause-within : goal.take-requires-clause-within
take-requires-clause-within c =
    let place = ap (λ (entry : AttrEntry). entry.place) c.entry.view_is in
    let inside = entry_inside c.args.block.now c.loop-index.index c.entry_in-entry.result c.requires.within (omega (arith, c.count_in-index-end.ensures.count)) c.entry_in-entry.ensures in
    omega (arith, place, inside, c.name_size.ensures.size, c.from-from.ensures, c.from-from.array_long)

pub returns-then-not-take : goal.returns-then-not-take
returns-then-not-take c =
    let place = ap (λ (entry : AttrEntry). entry.place) c.entry.view_is in (
      λ f. absurd cc,
      λ pairs.
          absurd (overlaps c.args.block.now c.loop-index.index _ _ c.entry_in-entry.result c.loop-index.marks (omega (arith, c.count_in-index-end.ensures.count)) c.entry_in-entry.ensures
          (omega (arith, place, c.from-from.ensures)) (omega (arith, place, c.from-from.ensures, c.name_size.ensures.size)) c.if-not-take.ensures c.loop-index.invariant pairs),
    )

pub loop-index-preserved : goal.loop-index-preserved
loop-index-preserved c =
    let place = ap (λ (entry : AttrEntry). entry.place) c.entry.view_is in
    more_marked c.args.block.now c.loop-index.index _ _ c.entry_in-entry.result c.loop-index.marks c.take.new.marks c.entry_in-entry.ensures
    (omega (arith, place, c.from-from.ensures)) (omega (arith, place, c.from-from.ensures, c.name_size.ensures.size)) c.if-not-take.ensures c.loop-index.invariant

pub returns : goal.returns
returns c =
    (λ t. all_apart c.args.block.now c.loop-index.index c.loop-index.marks (omega (arith, c.count_in-index-end.ensures.count)) c.loop-index.invariant, λ pairs. refl)
