use Rattle.std.proofs.Common.{arith}
use Rattle.xn_make.proofs.Laying.{area_step, leaf_entries_step, room_here, room_step, area_end, leaf_entries_end}
use Rattle.xn_make.proofs.blocks.add_all.Goals as goal

pub add-requires-clause-room : goal.add-requires-clause-room
add-requires-clause-room c = room_here c.loop-entry.layout.area.items c.args.entries.now c.loop-entry.entry-index _ (omega arith) c.loop-entry.invariant.room

pub loop-entry-preserved : goal.loop-entry-preserved
loop-entry-preserved c =
    let old = c.loop-entry.layout.area.items in
    let new = c.add.new.self.area.items in
    let entries = c.args.entries.now in
    let i = c.loop-entry.entry-index in
    let put = c.in_ok-add.ensures.area in
    record {
      area = area_step _ old new entries i _ (omega arith) put c.loop-entry.invariant.area;
      leaves = leaf_entries_step _ old new c.loop-entry.layout.leaves.items c.add.new.self.leaves.items entries i _ (omega arith) put c.in_ok-add.ensures.leaves c.loop-entry.invariant.leaves;
      room = room_step old new entries i _ (omega arith) put c.loop-entry.invariant.room;
    }

pub returns : goal.returns
returns c = record {
  area = area_end _ c.loop-entry.layout.area.items c.args.entries.now c.loop-entry.entry-index (omega arith) c.loop-entry.invariant.area;
  leaves = leaf_entries_end _ c.loop-entry.layout.area.items c.loop-entry.layout.leaves.items c.args.entries.now c.loop-entry.entry-index (omega arith) c.loop-entry.invariant.leaves;
}
