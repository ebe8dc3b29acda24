-- Operations of live records as contracts see them.
use Rattle.xn_changes.specs.Transactions.{LiveOp as PlacedOp}
use Rattle.xn_transactions.specs.declared.live.LiveOp.{LiveOp}

abbrev pub live_of : LiveOp → PlacedOp
live_of live = record { place = live.place; op = live.op.now }
