use Rattle.std.proofs.Common.{◌≡◌, ◌<◌, ◌++◌, ◌∷◌, List, [], false, get_or, sym, ap, subst, arith, rules}
use Rattle.xn_log.specs.declared.outline.Outline.{Outline}
use Rattle.xn_ring.specs.Chains.{lsn_told}
use Rattle.xn_ring.specs.Labels.{IsUnderWay}
use Rattle.xn_ring.proofs.Walks.{at_first, end_listed, a_step, no_way_on, led_past, led_here}
use Rattle.xn_ring.proofs.Places.{same_outline}
use Rattle.xn_ring.proofs.chain.chain_between.Goals as goal

pub loop-here-init : goal.loop-here-init
loop-here-init c = at_first _ _ _ _ _ c.requires.has_first c.in_ok-chain.ensures.items

pub returns-in_default : goal.returns-in_default
returns-in_default c =
    let older : lsn_told c.loop-here.here < lsn_told c.args.last = omega arith in
    no_way_on _ _ c.args.first c.args.last c.loop-here.chain.items c.loop-here.here older (search rules) c.loop-here.invariant

pub loop-here-smaller : goal.loop-here-smaller
loop-here-smaller c =
    let behind = c.in-Some.ensures in
    let read : Outline = get_or c.args.outlines.now c.in-Some.next (record { cycle = 0; sector = 0; sectors = 0; tail = 0; is_unmount = false }) in
    let same : lsn_told read ≡ lsn_told behind.0 = ap lsn_told (behind.1.same _) in
    omega (arith, behind.2.greater)

pub loop-here-preserved : goal.loop-here-preserved
loop-here-preserved c =
    let older : lsn_told c.loop-here.here < lsn_told c.args.last = omega arith in
    let next = c.in-Some.ensures in
    let way = a_step _ _ c.args.first c.args.last c.loop-here.chain.items c.loop-here.here next.0 c.in-Some.next c.requires.by_sector older next.1 next.2 c.loop-here.invariant in
    let read : Outline = get_or c.args.outlines.now c.in-Some.next (record { cycle = 0; sector = 0; sectors = 0; tail = 0; is_unmount = false }) in
    let same : read ≡ next.0 = next.1.same _ in
    let P : Outline → Type 0 = λ o. IsUnderWay c.args.ring_sectors c.args.outlines.now c.args.first c.args.last (c.loop-here.chain.items ++ o ∷ []) o in
    let Q : List Outline → Type 0 = λ walked. IsUnderWay c.args.ring_sectors c.args.outlines.now c.args.first c.args.last walked read in
    subst Q (sym c.in_ok-push.ensures.items) (subst P (sym same) way)

pub returns-then-here-last : goal.returns-then-here-last
returns-then-here-last c =
    let way = c.loop-here.invariant in
    let same : c.loop-here.here ≡ c.args.last = same_outline _ _ _ c.requires.by_sector (end_listed _ _ _ _ _ way.chain) c.requires.has_last c.if-here-last.true in
    led_here _ _ c.args.first c.args.last c.loop-here.chain.items c.loop-here.here same way

pub returns-else-here-last : goal.returns-else-here-last
returns-else-here-last c =
    led_past _ _ c.args.first c.args.last c.loop-here.chain.items c.loop-here.here (omega arith) (λ same. c.if-here-last.false (ap (λ (o : Outline). o.sector) same)) c.loop-here.invariant
