use Rattle.xn_ring.proofs.Noting.{next_place, noted_none, noted_one, place_noted}
use Rattle.xn_ring.proofs.found.note_record.Goals as goal

pub returns-in_default : goal.returns-in_default
returns-in_default c = record {
  outlined = λ ring same window.
      noted_none c.args.ring_sectors c.args.sector c.args.uuid.now ring c.args.bytes.now c.args.outlines.now.items c.outline.result same window c.outline.ensures c.in_default.not-Ok;
  places = next_place c.args.ring_sectors c.args.sector c.args.outlines.now.items;
}

pub returns : goal.returns
returns c = record {
  outlined = λ ring same window.
      noted_one c.args.ring_sectors c.args.sector c.args.uuid.now ring c.args.bytes.now c.args.outlines.now.items c.push.new.self.items c.in-Ok.record same window c.in-Ok.ensures.0 c.in-Ok.ensures.1 c.in_ok-push.ensures.items;
  places = place_noted c.args.ring_sectors c.args.sector c.args.uuid.now c.args.bytes.now c.args.outlines.now.items c.push.new.self.items c.in-Ok.record c.in-Ok.ensures.0 c.in-Ok.ensures.1 c.in_ok-push.ensures.items;
}
