use Rattle.std.proofs.Common.{◌≡◌, ◌+◌, drop}
use Rattle.std.specs.Prelude.{sum_by}
use Rattle.xn_rows.proofs.filled.fit.Given as goal

abbrev pub invariant-loop-entry : goal.invariant-loop-entry
invariant-loop-entry g l = l.room + sum_by g.L.Leaf.size l.entries ≡ g.L.Leaf.CAPACITY + sum_by g.L.Leaf.size (drop l.entry-index l.entries)
