use Rattle.std.proofs.Common.{◌-◌, length, drop}
use Rattle.xn_changes.specs.Decoded.{items_in}
use Rattle.xn_transactions.proofs.PlacingLemmas.{AreTaken}
use Rattle.xn_transactions.proofs.placed.items_in.Given as goal

abbrev pub invariant-loop-at : goal.invariant-loop-at
invariant-loop-at l = AreTaken (items_in (length l.regions) l.regions) l.places.items l.items.items (drop l.at l.regions)

abbrev pub decreases-loop-at : goal.decreases-loop-at
decreases-loop-at l = length l.regions - l.at
