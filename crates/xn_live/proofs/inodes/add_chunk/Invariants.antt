use Rattle.xn_live.proofs.Added.{AddedBelow}
use Rattle.xn_live.proofs.inodes.add_chunk.Given as goal

abbrev pub invariant-loop-k : goal.invariant-loop-k
invariant-loop-k l = AddedBelow l.geometry l.chunk l.k l.fn.live.items l.live.items
