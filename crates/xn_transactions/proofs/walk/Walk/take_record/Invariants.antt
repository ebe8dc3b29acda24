use Rattle.std.proofs.Common.{List, ◌++◌, take}
use Rattle.xn_changes.specs.Transactions.{LiveOp, placed_from}
use Rattle.xn_transactions.specs.Walking.{HasWalked}
use Rattle.xn_transactions.proofs.walk.Walk.take_record.Given as goal

abbrev pub invariant-loop-k : goal.invariant-loop-k
invariant-loop-k l = (done : List LiveOp) → HasWalked l.initial.self done → HasWalked l.self (done ++ placed_from l.lsn 0 (take l.k l.op-items))
