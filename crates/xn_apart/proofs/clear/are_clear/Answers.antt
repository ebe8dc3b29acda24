use Rattle.std.proofs.lemmas.Bool.{false≢true}
use Rattle.xn_apart.proofs.clear.are_clear.Goals as goal

pub returns-then-not-is_clear : goal.returns-then-not-is_clear
returns-then-not-is_clear c = (
  λ no. absurd (false≢true no),
  λ all. c.if-not-is_clear.ensures.1 (λ k d low. all k d low c.loop-span.span-index _ c.loop-span-test.true),
)
