use Rattle.std.proofs.Common.{take}
use Rattle.xn_changes.specs.Transactions.{live_operations}
use Rattle.xn_transactions.specs.Walking.{HasWalked}
use Rattle.xn_transactions.proofs.walk.committed_in.Given as goal

abbrev pub invariant-loop-record : goal.invariant-loop-record
invariant-loop-record l = HasWalked l.walk (live_operations (take l.record-index l.records))
