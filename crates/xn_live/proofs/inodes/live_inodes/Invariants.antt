use Rattle.xn_live.proofs.Gathered.{GatheredBelow}
use Rattle.xn_live.proofs.inodes.live_inodes.Given as goal

abbrev pub invariant-loop-chunk : goal.invariant-loop-chunk
invariant-loop-chunk l = GatheredBelow l.geometry l.chunks l.chunk-index l.live.items
