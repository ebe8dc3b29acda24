-- What the live records say: the committed transactions with their items, or the first item that isn't one to be carried out.
use Rattle.std.specs.Prelude.{ℕ, zero, suc, Bool, false, ◌==◌, ◌&&◌, if◌then◌else◌, List, [], ◌∷◌, length, drop, map, Result, Ok, Err}
use Rattle.xn_bytes.specs.Numbers.{little_number_at}
use Rattle.xn_log.specs.declared.record.Record.{Record}
use Rattle.xn_changes.specs.declared.committed.Committed.{Committed}
use Rattle.xn_changes.specs.declared.committed.Place.{Place}
use Rattle.xn_changes.specs.declared.item.Item.{Item}
use Rattle.xn_changes.specs.Items.{Reason, Malformed, Taken, take_item}
use Rattle.xn_changes.specs.Transactions.{LiveOp, Region, Whole, are_joined, committed_in, regions_in}

-- where an item begins that is not to be carried out, and why it isn't
pub record ItemFault : Type 0 where
  pub place : Place
  pub reason : Reason

-- where the first of these operations stands, or else another one
abbrev pub first_place : LiveOp → List LiveOp → Place
first_place other [] = other.place
first_place other (live ∷ parts) = live.place

-- an item, and where it begins
pub record PlacedItem : Type 0 where
  pub place : Place
  pub item : Item

-- the bytes of regions
abbrev pub bytes_of : List Region → List (List ℕ)
bytes_of regions = map (λ region. region.bytes) regions

-- an item in front of those behind it
abbrev pub in_front : Place → Item → Result (List PlacedItem) ItemFault → Result (List PlacedItem) ItemFault
in_front place item (Ok items) = Ok (record { place = place; item = item } ∷ items)
in_front place item (Err fault) = Err fault

-- what follows from the item that begins with a region, by what follows behind its regions
abbrev pub then_items : Place → Result Taken Reason → (ℕ → Result (List PlacedItem) ItemFault) → Result (List PlacedItem) ItemFault
then_items place (Err reason) next = Err (record { place = place; reason = reason })
then_items place (Ok taken) next = in_front place taken.item (next taken.behind)

-- the items in regions, of which there are so many at most, or the first that is none
unfoldable pub items_in : ℕ → List Region → Result (List PlacedItem) ItemFault
items_in zero regions = Ok []
items_in (suc most) [] = Ok []
items_in (suc most) (first ∷ regions) =
    then_items first.place (take_item first.bytes (bytes_of regions)) (λ behind. items_in most (drop behind regions))

-- The first region of a transaction is its header (`struct xfs_trans_header`): 16 bytes, `TRAN`, 40. Its other numbers are not looked
-- at.
abbrev pub is_transaction_header : List ℕ → Bool
is_transaction_header bytes = (length bytes == 16) && (little_number_at 4 0 bytes == 0x5452414e) && (little_number_at 4 4 bytes == 40)

-- the operation of a transaction behind its start: its commit where there is no other
abbrev pub place_behind_start : Whole → Place
place_behind_start whole = first_place whole.commit whole.parts

-- the items of regions, of which the first has to be a transaction's header
abbrev pub items_behind_header : Place → List Region → Result (List PlacedItem) ItemFault
items_behind_header place [] = Err (record { place = place; reason = Malformed })
items_behind_header place (header ∷ regions) =
    if is_transaction_header header.bytes then items_in (length regions) regions else Err (record { place = place; reason = Malformed })

-- The items of a committed transaction, or the first that is none. Where its header is none, or its regions don't go on as they say,
-- it counts as a malformed item that begins behind its start.
abbrev pub items_of : Whole → Result (List PlacedItem) ItemFault
items_of whole =
    if are_joined false whole.parts then items_behind_header (place_behind_start whole) (regions_in whole.parts)
    else Err (record { place = place_behind_start whole; reason = Malformed })

abbrev pub committed_with : Whole → List PlacedItem → Committed
committed_with whole items = record {
  lsn = whole.commit.place.lsn;
  places = map (λ placed. placed.place) items;
  transaction = record { tid = whole.commit.op.tid; items = map (λ placed. placed.item) items };
}

-- a committed transaction in front of those behind it, or the first fault
abbrev pub with_items : Whole → Result (List PlacedItem) ItemFault → Result (List Committed) ItemFault → Result (List Committed) ItemFault
with_items whole (Err fault) behind = Err fault
with_items whole (Ok items) (Err fault) = Err fault
with_items whole (Ok items) (Ok behind) = Ok (committed_with whole items ∷ behind)

unfoldable pub decoded_all : List Whole → Result (List Committed) ItemFault
decoded_all [] = Ok []
decoded_all (whole ∷ rest) = with_items whole (items_of whole) (decoded_all rest)

-- What live records say: the committed transactions in order of their commits, or the first item, in that order, that is none.
abbrev pub decoded_in : List Record → Result (List Committed) ItemFault
decoded_in records = decoded_all (committed_in records)
