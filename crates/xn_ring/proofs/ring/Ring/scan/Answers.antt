use Rattle.std.proofs.Common.{◌≡◌, ◌∙◌, ◌*◌, ap, refl, sym, subst}
use Rattle.std.specs.Prelude.{All}
use Rattle.std.proofs.lemmas.Result.{err_from_is_err_and}
use Rattle.xn_log.specs.declared.outline.Outline.{Outline}
use Rattle.xn_ring.specs.Chains.{AreLiveAmong, IsHeadAmong}
use Rattle.xn_ring.specs.Scans.{HavePlaces, IsPlaced, left_free}
use Rattle.xn_ring.proofs.Assembling.{live_placed, missing_told, none_told, ring_told}
use Rattle.xn_ring.proofs.ring.Ring.scan.Goals as goal

pub returns-in_default-clause-none : goal.returns-in_default-clause-none
returns-in_default-clause-none g c = λ same.
    let none = rw c.in_default.is at c.in_ok-head.ensures in
    let items : c.deref.result.now ≡ c.in_ok-marks.field-0.outlines.items = c.deref.ensures.value in
    none_told c.args.geometry.now (g.M.Machine.image c.args.machine.now) (g.M.Machine.sector_count c.args.machine.now) c.log_sectors-sectors.result c.in_ok-marks.field-0
    c.requires.length c.requires.there c.log_sectors-sectors.ensures c.in_ok-marks.ensures.noted
    (subst (λ os. (o : Outline) → IsHeadAmong c.log_sectors-sectors.result os o → ⊥) items none)

pub read_records-requires-clause-places : goal.read_records-requires-clause-places
read_records-requires-clause-places g c =
    let head = rw c.in-Some.is at c.in_ok-head.ensures in
    let n = 8 * c.args.geometry.now.log_blocks in
    let items : c.in_ok-marks.field-0.outlines.items ≡ c.deref.result.now = sym c.deref.ensures.value in
    let places : HavePlaces n n c.deref.result.now = subst (HavePlaces n n) items c.in_ok-marks.ensures.places in
    let live : AreLiveAmong n c.deref.result.now c.in-Some.head.outline c.in-Some.head.live.items = subst (λ m. AreLiveAmong m c.deref.result.now c.in-Some.head.outline c.in-Some.head.live.items) c.log_sectors-sectors.ensures head.1 in
    subst (All (IsPlaced n n)) (sym c.deref-2.ensures.value) (live_placed n n c.deref.result.now c.in-Some.head.outline c.in-Some.head.live.items places live)

pub returns-in_err-live-clause-none : goal.returns-in_err-live-clause-none
returns-in_err-live-clause-none g c =
    let head = rw c.in-Some.is at c.in_ok-head.ensures in
    let items : c.deref.result.now ≡ c.in_ok-marks.field-0.outlines.items = c.deref.ensures.value in
    let live : AreLiveAmong c.log_sectors-sectors.result c.in_ok-marks.field-0.outlines.items c.in-Some.head.outline c.in-Some.head.live.items = subst (λ os. AreLiveAmong c.log_sectors-sectors.result os c.in-Some.head.outline c.in-Some.head.live.items) items head.1 in
    let missing = rw c.deref-2.ensures.value at c.in_err-live.ensures.missing in
    let p = err_from_is_err_and c.from_residual-in_err-live.result c.from_residual-in_err-live.ensures.1 in
    rw (p.1, p.2)
    (λ same. missing_told c.args.geometry.now (g.M.Machine.image c.args.machine.now) (g.M.Machine.image c.scan_log.new.machine) c.log_sectors-sectors.result c.in_ok-marks.field-0 c.in-Some.head.outline c.in-Some.head.live.items
    c.scan_log.ensures.only_read.image_stays c.in_ok-marks.ensures.noted live (missing same))

pub returns-clause-found : goal.returns-clause-found
returns-clause-found g c =
    let head = rw c.in-Some.is at c.in_ok-head.ensures in
    let items : c.deref.result.now ≡ c.in_ok-marks.field-0.outlines.items = c.deref.ensures.value in
    let both = subst (λ os. IsHeadAmong c.log_sectors-sectors.result os c.in-Some.head.outline × AreLiveAmong c.log_sectors-sectors.result os c.in-Some.head.outline c.in-Some.head.live.items) items head in
    ring_told c.args.geometry.now (g.M.Machine.image c.args.machine.now) (g.M.Machine.image c.scan_log.new.machine) (g.M.Machine.sector_count c.args.machine.now) c.log_sectors-sectors.result c.in_ok-marks.field-0
    c.in-Some.head.outline c.in-Some.head.live.items c.in_ok-live.live.items _
    c.requires.length c.requires.there c.log_sectors-sectors.ensures c.scan_log.ensures.only_read.image_stays c.in_ok-marks.ensures.noted both.0 both.1
    (rw c.deref-2.ensures.value at c.in_ok-live.ensures.records)
    (record {
      head_cycle_is = refl;
      next_cycle_is = c.cycle_after.ensures;
      next_sector_is = c.sector_after.ensures;
      free_is = c.free_beside.ensures ∙ ap (left_free c.log_sectors-sectors.result c.in-Some.head.outline) c.deref-3.ensures.value;
      live_are = refl;
      marks_are = refl;
    })
