use Rattle.std.proofs.Common.{false, arith}
use Rattle.xn_log.specs.declared.outline.Outline.{Outline}
use Rattle.xn_ring.proofs.Heads.{is_head, no_head, one_tried}
use Rattle.xn_ring.proofs.Labelling.{listed_newest}
use Rattle.xn_ring.proofs.head.find_head.Goals as goal

pub live_up_to-requires-clause-listed : goal.live_up_to-requires-clause-listed
live_up_to-requires-clause-listed c = listed_newest _ c.deref-outline-items.result.now c.loop-outline.outline-index _ c.loop-outline.invariant.search.order (omega arith)

pub returns-in-Some : goal.returns-in-Some
returns-in-Some c =
    let none : Outline = record { cycle = 0; sector = 0; sectors = 0; tail = 0; is_unmount = false } in
    let found = rw c.in-Some.is at c.in_ok-live.ensures in
    (is_head c.args.ring_sectors c.args.outlines.now c.deref-outline-items.result.now c.loop-outline.outline-index none (omega arith) c.loop-outline.invariant.search found.0, found.1)

pub loop-outline-preserved : goal.loop-outline-preserved
loop-outline-preserved c =
    let none : Outline = record { cycle = 0; sector = 0; sectors = 0; tail = 0; is_unmount = false } in
    let passed = rw c.in_default.is at c.in_ok-live.ensures in
    record {
      labels = c.loop-outline.invariant.labels;
      search = one_tried c.args.ring_sectors c.args.outlines.now c.deref-outline-items.result.now c.loop-outline.outline-index none (omega arith) passed c.loop-outline.invariant.search;
    }

pub returns : goal.returns
returns c = no_head c.args.ring_sectors c.args.outlines.now c.deref-outline-items.result.now c.loop-outline.outline-index (omega arith) c.loop-outline.invariant.search
