use Rattle.xn_check.proofs.Placed.{ArePlacedBelow}
use Rattle.xn_check.proofs.places.chunk_is_placed.Given as goal

abbrev pub invariant-loop-k : goal.invariant-loop-k
invariant-loop-k l = ArePlacedBelow l.geometry l.pool l.start l.mask l.k
