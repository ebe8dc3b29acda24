use Rattle.std.proofs.Common.{◌+◌, ◌≤◌}
use Rattle.std.specs.List.{AllAdjacentBelow}
use Rattle.xn_apart.specs.declared.span.Span.{Span}
use Rattle.xn_apart.proofs.apart.are_apart.Given as goal

abbrev pub invariant-loop-at : goal.invariant-loop-at
invariant-loop-at l = AllAdjacentBelow (λ (a b : Span). a.block + a.count ≤ b.block) l.spans l.at
