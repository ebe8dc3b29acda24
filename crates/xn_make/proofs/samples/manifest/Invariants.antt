use Rattle.std.proofs.Common.{◌≡◌, map}
use Rattle.std.specs.List.{range_with_len}
use Rattle.xn_make.specs.Samples.{full_chunk}
use Rattle.xn_make.proofs.samples.manifest.Given as goal

abbrev pub invariant-loop-place : goal.invariant-loop-place
invariant-loop-place l = record { chunks : l.chunks.items ≡ map full_chunk (range_with_len 0 l.place) }
