use Rattle.std.proofs.Common.{◌≡◌, ◌+◌, take}
use Rattle.std.specs.Prelude.{sum_by}
use Rattle.xn_facts.proofs.runs.map_as_many.Given as goal

abbrev pub invariant-loop-run : goal.invariant-loop-run
invariant-loop-run l = l.left + sum_by (λ run. run.count) (take l.run-index l.runs) ≡ l.blocks
