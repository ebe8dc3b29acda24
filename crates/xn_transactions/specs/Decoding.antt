-- What a committed transaction holds.
use Rattle.std.specs.Prelude.{◌≡◌, List, ◌++◌, Result, Ok, Err}
use Rattle.xn_changes.specs.declared.committed.Committed.{Committed}
use Rattle.xn_changes.specs.Decoded.{ItemFault, PlacedItem, committed_with, items_of}
use Rattle.xn_changes.specs.Transactions.{Whole}

-- this is what a transaction holds
pub record IsCommitted (whole : Whole) (committed : Committed) : Type 0 where
  pub items : List PlacedItem
  pub said_so : items_of whole ≡ Ok items
  pub held : committed ≡ committed_with whole items

-- transactions in front of those that are said
abbrev pub committed_before : List Committed → Result (List Committed) ItemFault → Result (List Committed) ItemFault
committed_before first (Ok behind) = Ok (first ++ behind)
committed_before first (Err fault) = Err fault
