use Rattle.std.proofs.Common.{◌≡◌, ◌++◌, take}
use Rattle.std.specs.Prelude.{flat_map}
use Rattle.xn_text.specs.Writing.{chunk_text}
use Rattle.xn_text.proofs.writer.write_chunks.Given as goal

abbrev pub invariant-loop-chunk : goal.invariant-loop-chunk
invariant-loop-chunk l = l.out.items ≡ l.fn.out.items ++ flat_map chunk_text (take l.chunk-index l.chunks)
