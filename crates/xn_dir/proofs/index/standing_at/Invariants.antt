use Rattle.xn_bytes.specs.DataBlock.{entries_among}
use Rattle.xn_dir.proofs.Places.{SeeksPlace}
use Rattle.xn_dir.proofs.index.standing_at.Given as goal

abbrev pub invariant-loop-entry : goal.invariant-loop-entry
invariant-loop-entry l = SeeksPlace (entries_among l.first.regions) l.position l.entry-iterator
