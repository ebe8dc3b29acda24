-- Items and where they begin.
use Rattle.std.specs.Prelude.{◌≡◌, List, ◌++◌, map, Result, Ok, Err}
use Rattle.xn_changes.specs.Decoded.{ItemFault, PlacedItem}
use Rattle.xn_changes.specs.Items.{Reason, Taken as TakenItem}
use Rattle.xn_transactions.specs.declared.placed.PlacedItems.{PlacedItems}
use Rattle.xn_transactions.specs.declared.taken.Taken.{Taken}

-- this was taken
abbrev pub IsTaken : Result TakenItem Reason → Taken → Type 0
IsTaken said taken = said ≡ Ok (record { item = taken.item; behind = taken.behind })

-- these are the places, and the items, that are said
pub record ArePlaced (said : Result (List PlacedItem) ItemFault) (placed : PlacedItems) : Type 0 where
  pub items : List PlacedItem
  pub said_so : said ≡ Ok items
  pub places_are : placed.places.items ≡ map (λ item. item.place) items
  pub items_are : placed.items.items ≡ map (λ item. item.item) items

-- items in front of those that are said
abbrev pub put_before : List PlacedItem → Result (List PlacedItem) ItemFault → Result (List PlacedItem) ItemFault
put_before items (Ok behind) = Ok (items ++ behind)
put_before items (Err fault) = Err fault
