use Rattle.std.proofs.Common.{◌≡◌}
use Rattle.xn_check.proofs.MarkLemmas.{AreUnmapped}
use Rattle.xn_check.proofs.mark.mark_mapped.Given as goal

abbrev pub invariant-loop-run : goal.invariant-loop-run
invariant-loop-run l = AreUnmapped l.fn.view.free l.view.free l.runs l.run-index × (l.view ≡ record l.fn.view { free = l.view.free })
