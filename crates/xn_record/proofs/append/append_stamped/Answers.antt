use Rattle.std.proofs.Common.{◌≡◌, ◌++◌, ℕ, ap, ◌∙◌, arith}
use Rattle.xn_log.specs.Records.{stamp_of}
use Rattle.xn_log.specs.Spelled.{stamped_from}
use Rattle.xn_record.proofs.Appending.{none_stamped, stamped_more}
use Rattle.xn_record.proofs.append.append_stamped.Goals as goal

pub loop-index-init : goal.loop-index-init
loop-index-init c = none_stamped c.args.bytes.now.items (stamp_of c.args.ring_sectors c.args.record.now.sector c.args.record.now.cycle) c.args.body.now

pub loop-index-preserved : goal.loop-index-preserved
loop-index-preserved c =
    stamped_more c.args.bytes.now.items c.loop-index.bytes.items c.append_u32.new.bytes.items c.extend_from_slice.new.self.items (stamp_of c.args.ring_sectors c.args.record.now.sector c.args.record.now.cycle) c.args.body.now c.loop-index.index c.stamp_of.result c.loop-index.invariant c.stamp_of.ensures c.in_ok-append_u32.ensures c.in_ok-extend_from_slice.ensures.items

pub returns : goal.returns
returns c =
    let all : c.loop-index.index ≡ c.args.sectors = omega arith in
    c.loop-index.invariant ∙ ap (λ (count : ℕ). c.args.bytes.now.items ++ stamped_from (stamp_of c.args.ring_sectors c.args.record.now.sector c.args.record.now.cycle) c.args.body.now 0 count) all
