-- What is known after operations of live records.
use Rattle.std.specs.Prelude.{◌≡◌, ℕ, List, [], reverse}
use Rattle.std.specs.Ordering.{nat_cmp}
use Rattle.std.specs.BTreeMap.{get}
use Rattle.xn_changes.specs.Transactions.{LiveOp, committed_after, started_in}
use Rattle.xn_transactions.specs.declared.walk.Walk.{Walk}

-- The map has what the operations have started of each transaction, and the list what they have committed.
pub record HasWalked (walk : Walk) (done : List LiveOp) : Type 0 where
  pub started_are : (tid : ℕ) → get nat_cmp walk.started tid ≡ started_in tid (reverse done)
  pub wholes_are : walk.wholes.items ≡ committed_after [] done
