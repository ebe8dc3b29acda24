-- Items of regions, one step on.
use Rattle.std.proofs.Common.{◌≡◌, ℕ, zero, suc, ◌+◌, ◌-◌, ◌<◌, ◌≤◌, List, [], ◌∷◌, ◌++◌, length, get_or, drop, take, map, Result, Ok, Err, refl, sym, ap, ◌∙◌, append_assoc, arith}
use Rattle.std.proofs.lemmas.List.{append-nil, at_drop_all, drop-drop, drop_more, length-drop, map-append, take_all}
use Rattle.xn_changes.specs.declared.committed.Place.{Place}
use Rattle.xn_changes.specs.declared.item.Item.{Item}
use Rattle.xn_changes.specs.Decoded.{ItemFault, PlacedItem, bytes_of, in_front, items_in, then_items}
use Rattle.xn_changes.specs.Items.{Reason, Taken as TakenItem, take_item}
use Rattle.xn_changes.specs.Transactions.{Region}
use Rattle.xn_transactions.specs.declared.fault.ItemFault.{ItemFault as FaultHere}
use Rattle.xn_transactions.specs.declared.fault.ItemFault.TheVariants as fault
use Rattle.xn_transactions.specs.declared.taken.Taken.{Taken}
use Rattle.xn_transactions.specs.Faults.{IsFirstFault}
use Rattle.xn_transactions.specs.declared.placed.PlacedItems.{PlacedItems}
use Rattle.xn_transactions.specs.Placing.{ArePlaced, IsTaken, put_before}

items_in-none : (most : ℕ) → items_in most [] ≡ Ok []
unfolding items_in
items_in-none zero = refl
items_in-none (suc most) = refl

items_in-parts : (most : ℕ) (first : Region) (rest : List Region) → items_in (suc most) (first ∷ rest) ≡ then_items first.place (take_item first.bytes (bytes_of rest)) (λ behind. items_in most (drop behind rest))
unfolding items_in
items_in-parts most first rest = refl

put_before-in_front : (items : List PlacedItem) (place : Place) (item : Item) (said : Result (List PlacedItem) ItemFault) → put_before items (in_front place item said) ≡ put_before (items ++ record { place = place; item = item } ∷ []) said
put_before-in_front items place item (Ok behind) = ap Ok (sym (append_assoc items (record { place = place; item = item } ∷ []) behind))
put_before-in_front items place item (Err why) = refl

put_before-fault : (items : List PlacedItem) (said : Result (List PlacedItem) ItemFault) (f : FaultHere) → IsFirstFault said f → IsFirstFault (put_before items said) f
put_before-fault items said (fault.Foreign at) h = rw h refl
put_before-fault items said (fault.Malformed at) h = rw h refl
put_before-fault items said fault.Memory h = tt

nothing_before : (said : Result (List PlacedItem) ItemFault) → said ≡ put_before [] said
nothing_before (Ok items) = refl
nothing_before (Err why) = refl

-- What is known of regions of which items were taken: these stand in front of those that are left, of which there are so many at
-- most.
pub record AreTaken (said : Result (List PlacedItem) ItemFault) (places : List Place) (items : List Item) (left : List Region) : Type 0 where
  pub taken : List PlacedItem
  pub most : ℕ
  pub enough : length left ≤ most
  pub said_so : said ≡ put_before taken (items_in most left)
  pub places_are : places ≡ map (λ item. item.place) taken
  pub items_are : items ≡ map (λ item. item.item) taken

taken-step : (said : Result (List PlacedItem) ItemFault) (places : List Place) (items : List Item) (first : Region) (rest : List Region) (taken : Taken) → AreTaken said places items (first ∷ rest) → IsTaken (take_item first.bytes (bytes_of rest)) taken → AreTaken said (places ++ first.place ∷ []) (items ++ taken.item ∷ []) (drop taken.behind rest)
taken-step said places items first rest taken h is = record {
  taken = h.taken ++ record { place = first.place; item = taken.item } ∷ [];
  most = h.most - 1;
  enough = let shorter = length-drop taken.behind rest in let enough : suc (length rest) ≤ h.most = h.enough in omega (arith, shorter);
  said_so =
      let one_less : h.most ≡ suc (h.most - 1) = let enough : suc (length rest) ≤ h.most = h.enough in omega arith in
      h.said_so
      ∙ ap (λ (n : ℕ). put_before h.taken (items_in n (first ∷ rest))) one_less
      ∙ ap (put_before h.taken) (items_in-parts (h.most - 1) first rest)
      ∙ ap (λ (t : Result TakenItem Reason). put_before h.taken (then_items first.place t (λ behind. items_in (h.most - 1) (drop behind rest)))) is
      ∙ put_before-in_front h.taken first.place taken.item (items_in (h.most - 1) (drop taken.behind rest));
  places_are = ap (λ (ps : List Place). ps ++ first.place ∷ []) h.places_are ∙ sym (map-append (λ (item : PlacedItem). item.place) h.taken (record { place = first.place; item = taken.item } ∷ []));
  items_are = ap (λ (is : List Item). is ++ taken.item ∷ []) h.items_are ∙ sym (map-append (λ (item : PlacedItem). item.item) h.taken (record { place = first.place; item = taken.item } ∷ []));
}

fault-step : (said : Result (List PlacedItem) ItemFault) (places : List Place) (items : List Item) (first : Region) (rest : List Region) (f : FaultHere) → AreTaken said places items (first ∷ rest) → ((next : ℕ → Result (List PlacedItem) ItemFault) → IsFirstFault (then_items first.place (take_item first.bytes (bytes_of rest)) next) f) → IsFirstFault said f
fault-step said places items first rest f h refused =
    let one_less : h.most ≡ suc (h.most - 1) = let enough : suc (length rest) ≤ h.most = h.enough in omega arith in
    rw (h.said_so, one_less, items_in-parts) (put_before-fault h.taken _ f (refused (λ behind. items_in (h.most - 1) (drop behind rest))))

pub taken-none : (regions : List Region) → AreTaken (items_in (length regions) regions) [] [] regions
taken-none regions = record {
  taken = [];
  most = length regions;
  enough = omega arith;
  said_so = nothing_before (items_in (length regions) regions);
  places_are = refl;
  items_are = refl;
}

-- the regions from a place on, as a slice
pub rest_from : (regions : List Region) (at : ℕ) → take (length regions - at) (drop at regions) ≡ drop at regions
rest_from regions at = take_all (length regions - at) (drop at regions) (let e = length-drop at regions in omega (arith, e))

-- the item that begins at a place is taken
pub taken-more : (said : Result (List PlacedItem) ItemFault) (places : List Place) (items : List Item) (regions : List Region) (at : ℕ) (first : Region) (taken : Taken) → at < length regions → first ≡ get_or regions at first → AreTaken said places items (drop at regions) → IsTaken (take_item first.bytes (bytes_of (drop (at + 1) regions))) taken → AreTaken said (places ++ first.place ∷ []) (items ++ taken.item ∷ []) (drop (at + (1 + taken.behind)) regions)
taken-more said places items regions at first taken lt is h taking =
    let front : drop at regions ≡ first ∷ drop (at + 1) regions = drop_more regions at first lt ∙ ap (λ (r : Region). r ∷ drop (at + 1) regions) (sym is) in
    let behind : drop taken.behind (drop (at + 1) regions) ≡ drop (at + (1 + taken.behind)) regions = drop-drop taken.behind (at + 1) regions ∙ ap (λ (n : ℕ). drop n regions) (let same : at + 1 + taken.behind ≡ at + (1 + taken.behind) = omega arith in same) in
    rw (← behind) (taken-step said places items first (drop (at + 1) regions) taken (rw (← front) h) taking)

pub taken-fault : (said : Result (List PlacedItem) ItemFault) (places : List Place) (items : List Item) (regions : List Region) (at : ℕ) (first : Region) (f : FaultHere) → at < length regions → first ≡ get_or regions at first → AreTaken said places items (drop at regions) → ((next : ℕ → Result (List PlacedItem) ItemFault) → IsFirstFault (then_items first.place (take_item first.bytes (bytes_of (drop (at + 1) regions))) next) f) → IsFirstFault said f
taken-fault said places items regions at first f lt is h refused =
    let front : drop at regions ≡ first ∷ drop (at + 1) regions = drop_more regions at first lt ∙ ap (λ (r : Region). r ∷ drop (at + 1) regions) (sym is) in
    fault-step said places items first (drop (at + 1) regions) f (rw (← front) h) refused

-- no region is left
pub taken-all : (said : Result (List PlacedItem) ItemFault) (places : List Place) (items : List Item) (regions : List Region) (at : ℕ) (placed : PlacedItems) → length regions ≤ at → AreTaken said places items (drop at regions) → placed.places.items ≡ places → placed.items.items ≡ items → ArePlaced said placed
taken-all said places items regions at placed past h places_are items_are = record {
  items = h.taken;
  said_so = h.said_so ∙ ap (put_before h.taken) (at_drop_all (items_in h.most) regions at past ∙ items_in-none h.most) ∙ ap Ok (append-nil h.taken);
  places_are = places_are ∙ h.places_are;
  items_are = items_are ∙ h.items_are;
}
