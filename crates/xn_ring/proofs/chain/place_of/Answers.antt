use Rattle.std.proofs.Common.{◌∙◌, ap}
use Rattle.xn_log.specs.declared.outline.Outline.{Outline}
use Rattle.xn_ring.proofs.Places.{none_begins}
use Rattle.xn_ring.proofs.chain.place_of.Goals as goal

pub returns-else-from-sector : goal.returns-else-from-sector
returns-else-from-sector c =
    let outline : Outline = c.in_ok-outline.outline.now in
    let found = c.in_ok-outline.ensures.lookup in
    none_begins c.args.outlines.now c.args.sector c.count_below-at.result outline c.requires found.3.0 c.count_below-at.ensures.point
    (λ begins. c.if-from-sector.false (c.from.ensures ∙ (ap (λ (o : Outline). o.sector) found.1 ∙ begins)))
