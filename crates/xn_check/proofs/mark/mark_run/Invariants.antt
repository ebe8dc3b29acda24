use Rattle.std.proofs.Common.{◌≡◌}
use Rattle.xn_check.proofs.MarkLemmas.{AreUsed}
use Rattle.xn_check.proofs.mark.mark_run.Given as goal

abbrev pub invariant-loop-block : goal.invariant-loop-block
invariant-loop-block l = AreUsed l.fn.view.free l.view.free l.fn.run.block l.block × (l.view ≡ record l.fn.view { free = l.view.free })
