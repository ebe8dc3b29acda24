use Rattle.std.proofs.Common.{◌≡◌, ◌+◌, drop}
use Rattle.xn_changes.specs.Items.{count_up}
use Rattle.xn_transactions.proofs.pieces.count_up.Given as goal

abbrev pub invariant-loop-k : goal.invariant-loop-k
invariant-loop-k l = count_up l.from l.pieces ≡ count_up (l.from + l.k) (drop l.k l.pieces)
