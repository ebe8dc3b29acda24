use Rattle.std.proofs.Common.{◌≡◌, false, drop, map}
use Rattle.xn_changes.specs.Transactions.{are_joined}
use Rattle.xn_transactions.specs.Viewed.{live_of}
use Rattle.xn_transactions.proofs.joining.are_joined.Given as goal

abbrev pub invariant-loop-part : goal.invariant-loop-part
invariant-loop-part l = are_joined false (map live_of l.parts) ≡ are_joined l.continued (map live_of (drop l.part-index l.parts))
