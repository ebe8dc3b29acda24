use Rattle.std.proofs.Common.{◌≡◌, ◌∙◌, Vec, Global, false, ap, get_or, Contains, subst, sym}
use Rattle.std.proofs.lemmas.Bool.{false≢true}
use Rattle.xn_log.specs.declared.outline.Outline.{Outline}
use Rattle.xn_ring.specs.Chains.{lsn_told}
use Rattle.xn_ring.proofs.Heads.{chain_found, not_reached}
use Rattle.xn_ring.proofs.Places.{listed}
use Rattle.xn_ring.proofs.head.live_up_to.Goals as goal

pub returns-in-Some : goal.returns-in-Some
returns-in-Some c =
    let found = c.in-Some.ensures in
    let outlines = c.args.outlines.now in
    let first : Outline = get_or outlines c.in-Some.first (record { cycle = 0; sector = 0; sectors = 0; tail = 0; is_unmount = false }) in
    let same : first ≡ found.0 = found.1.same _ in
    let has : Contains outlines first = subst (Contains outlines) (sym same) (listed outlines _ _ found.1) in
    chain_found c.args.ring_sectors outlines c.args.last.now c.requires.by_sector (λ (v : Vec Outline Global). v.items) first c.chain_between.result c.requires.listed has (ap lsn_told same ∙ found.2) (λ unmount. false≢true (sym c.if-last.false ∙ unmount)) c.chain_between.ensures

pub returns-in-None : goal.returns-in-None
returns-in-None c = not_reached c.args.ring_sectors c.args.outlines.now c.args.last.now c.requires.by_sector (λ unmount. false≢true (sym c.if-last.false ∙ unmount)) (c.in-None.ensures c.args.ring_sectors c.requires.labels)
