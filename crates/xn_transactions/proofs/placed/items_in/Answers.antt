use Rattle.std.proofs.Common.{◌+◌, length, refl}
use Rattle.std.proofs.lemmas.Result.{err_from_is_err_and}
use Rattle.xn_changes.specs.Decoded.{items_in}
use Rattle.xn_transactions.proofs.PlacingLemmas.{rest_from, taken-all, taken-fault, taken-more, taken-none}
use Rattle.xn_transactions.proofs.placed.items_in.Goals as goal

pub loop-at-init : goal.loop-at-init
loop-at-init c = rw (c.new-places.ensures.items, c.new-items.ensures.items) (taken-none c.args.regions.now)

pub returns-in_err-item : goal.returns-in_err-item
returns-in_err-item c =
    let p = err_from_is_err_and c.from_residual.result c.from_residual.ensures.1 in
    let regions = c.args.regions.now in
    let loop = c.loop-at in
    rw (p.1, p.2)
    (taken-fault (items_in (length regions) regions) loop.places.items loop.items.items regions loop.at c.index-regions-at.result _ c.loop-at-test.true c.index-regions-at.is loop.invariant (rw (rest_from regions (loop.at + 1)) at c.in_err-item.ensures))

pub loop-at-preserved : goal.loop-at-preserved
loop-at-preserved c =
    let regions = c.args.regions.now in
    let loop = c.loop-at in
    rw (c.in_ok-push.ensures.items, c.in_ok-push-2.ensures.items, c.place.ensures)
    (taken-more (items_in (length regions) regions) loop.places.items loop.items.items regions loop.at c.index-regions-at.result c.in_ok-item.field-0 c.loop-at-test.true c.index-regions-at.is loop.invariant (rw (rest_from regions (loop.at + 1)) at c.in_ok-item.ensures.0))

pub returns : goal.returns
returns c =
    let regions = c.args.regions.now in
    let loop = c.loop-at in
    taken-all (items_in (length regions) regions) loop.places.items loop.items.items regions loop.at _ c.loop-at-test.false loop.invariant refl refl
