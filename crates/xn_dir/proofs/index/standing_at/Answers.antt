use Rattle.xn_bytes.specs.DataBlock.{entries_among}
use Rattle.xn_data.specs.Viewed.{entry_of}
use Rattle.xn_dir.proofs.Places.{place_on}
use Rattle.xn_dir.proofs.index.standing_at.Goals as goal

pub loop-entry-preserved : goal.loop-entry-preserved
loop-entry-preserved c =
    place_on (entries_among c.args.first.now.regions) c.args.position (entry_of c.in-Some.entry) _ _ c.in-Some.ensures.steps c.if-entry-position.false c.loop-entry.invariant
