use Rattle.std.proofs.Common.{ℕ, ◌<◌, get_or}
use Rattle.xn_check.specs.Places.{ChunkIsPlaced}
use Rattle.xn_check.proofs.places.are_placed.Given as goal

abbrev pub invariant-loop-chunk : goal.invariant-loop-chunk
invariant-loop-chunk l = (k : ℕ) (d : ℕ × ℕ) → k < l.chunk-index → ChunkIsPlaced l.geometry l.pool (get_or l.chunks k d)
