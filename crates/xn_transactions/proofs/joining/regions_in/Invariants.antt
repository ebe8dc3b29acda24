use Rattle.std.proofs.Common.{◌≡◌, ◌++◌, drop, map}
use Rattle.xn_changes.specs.Transactions.{regions_in}
use Rattle.xn_transactions.specs.Joining.{with_last}
use Rattle.xn_transactions.specs.Viewed.{live_of}
use Rattle.xn_transactions.proofs.joining.regions_in.Given as goal

abbrev pub invariant-loop-part : goal.invariant-loop-part
invariant-loop-part l = regions_in (map live_of l.parts) ≡ l.regions.items ++ with_last l.unfinished (regions_in (map live_of (drop l.part-index l.parts)))
