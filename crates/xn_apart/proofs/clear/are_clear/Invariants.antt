use Rattle.std.proofs.Common.{ℕ, ◌<◌, All, get_or}
use Rattle.xn_apart.specs.Spans.{Holds}
use Rattle.xn_apart.specs.declared.span.Span.{Span}
use Rattle.xn_apart.proofs.clear.are_clear.Given as goal

abbrev pub invariant-loop-span : goal.invariant-loop-span
invariant-loop-span l = (k : ℕ) (d : Span) → k < l.span-index → All (λ (number : ℕ). ¬ Holds (get_or l.spans k d) number) l.numbers
