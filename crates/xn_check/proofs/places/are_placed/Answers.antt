use Rattle.std.proofs.Common.{◌≡◌, false, true}
use Rattle.xn_check.proofs.places.are_placed.Goals as goal

pub returns-then-not-chunk_is_placed : goal.returns-then-not-chunk_is_placed
returns-then-not-chunk_is_placed c = (λ none. let no : false ≡ true = none in absurd cc, λ all. c.if-not-chunk_is_placed.ensures.1 (all c.loop-chunk.chunk-index _ c.loop-chunk-test.true))
