use Rattle.std.proofs.Common.{◌-◌}
use Rattle.xn_dir.proofs.FreeBlocks.{Reads}
use Rattle.xn_dir.proofs.bests.are_free_indexes.Given as goal

abbrev pub invariant-loop-file_block : goal.invariant-loop-file_block
invariant-loop-file_block g l = Reads g.S.Store l.dir l.extents l.noted l.initial.store l.store l.from

abbrev pub decreases-loop-file_block : goal.decreases-loop-file_block
decreases-loop-file_block g l = l.end - l.from
