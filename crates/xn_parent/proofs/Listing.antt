-- Parents in order, against the attributes that spell them.
use Rattle.std.proofs.Common.{◌≡◌, ◌≢◌, List, length, map, sym}
use Rattle.std.specs.Prelude.{All, IsPermutation, IsSortedBy}
use Rattle.std.specs.List.{AllAdjacentBelow}
use Rattle.std.specs.Ordering.{is_lt}
use Rattle.std.specs.declared.cmp.Ordering.TheVariants.{Less}
use Rattle.std.proofs.lemmas.List.Sorted.{IsPermutation-map, IsPermutation-sym}
use Rattle.xn_bytes.proofs.NameOrder.{AllPairs-permutation}
use Rattle.xn_bytes.specs.declared.attribute.Attribute.{Attribute}
use Rattle.xn_bytes.specs.Parents.{ParentRecord}
use Rattle.xn_bytes.specs.ParentRecords.{HasRecords, IsBefore, IsOrdered, IsRecord, parents_among, record_in}
use Rattle.xn_items.specs.declared.parent.ParentRec.{ParentRec}
use Rattle.xn_items.specs.Viewed.{record_of}
use Rattle.xn_parent.specs.Order.{record_cmp}
use Rattle.xn_parent.proofs.Orders.{adjacent_map, adjacent_unmap, adjacent_weaker, sorted_map, once_from_rising, rising_from_once}
use Rattle.xn_parent.proofs.RecordOrder.{record_alike, record_before, record_total}

-- each parent comes before the next
abbrev pub ParentsRise : List ParentRec → Type 0
ParentsRise parents = AllAdjacentBelow (λ a b. record_cmp (record_of a) (record_of b) ≡ Less) parents (length parents)

-- no parent comes before the one in front of it
abbrev pub AreSorted : List ParentRec → Type 0
AreSorted parents = IsSortedBy (λ a b. is_lt (record_cmp (record_of a) (record_of b))) parents

other_flipped : (a b : ParentRecord) → a ≢ b → b ≢ a
other_flipped a b ne e = ne (sym e)

-- the records, moved
moved : (attributes : List Attribute) (parents sorted : List ParentRec) → map record_of parents ≡ map record_in (parents_among attributes) → IsPermutation parents sorted
    → IsPermutation (map record_in (parents_among attributes)) (map record_of sorted)
moved attributes parents sorted spells same = rw spells at (IsPermutation-map record_of parents sorted same)

-- Well formed parents that rise are the records of the attributes in order.
pub in_order_where_rising : (attributes : List Attribute) (parents sorted : List ParentRec) → All IsRecord (parents_among attributes) → map record_of parents ≡ map record_in (parents_among attributes) → IsPermutation parents sorted
    → ParentsRise sorted → HasRecords attributes × IsOrdered (map record_in (parents_among attributes)) (map record_of sorted)
in_order_where_rising attributes parents sorted formed spells same rising =
    let up = adjacent_map record_of (λ a b. record_cmp a b ≡ Less) sorted rising in
    let there = moved attributes parents sorted spells same in (
      record {
        formed = formed;
        once =
            AllPairs-permutation (λ a b. a ≢ b) other_flipped (map record_of sorted) (map record_in (parents_among attributes)) (IsPermutation-sym (map record_in (parents_among attributes)) (map record_of sorted) there)
            (once_from_rising record_cmp record_total (map record_of sorted) up);
      },
      record { same = there; rising = adjacent_weaker (λ a b. record_cmp a b ≡ Less) IsBefore record_before (map record_of sorted) (length (map record_of sorted)) up },
    )

-- Where no record stands twice, they rise once they are sorted.
pub rising_where_right : (attributes : List Attribute) (parents sorted : List ParentRec) → map record_of parents ≡ map record_in (parents_among attributes) → IsPermutation parents sorted → AreSorted sorted
    → HasRecords attributes → ParentsRise sorted
rising_where_right attributes parents sorted spells same in_order right =
    adjacent_unmap record_of (λ a b. record_cmp a b ≡ Less) sorted
    (rising_from_once record_cmp record_total record_alike (map record_of sorted) (sorted_map record_of (λ a b. is_lt (record_cmp a b)) sorted in_order)
    (AllPairs-permutation (λ a b. a ≢ b) other_flipped (map record_in (parents_among attributes)) (map record_of sorted) (moved attributes parents sorted spells same) right.once))
