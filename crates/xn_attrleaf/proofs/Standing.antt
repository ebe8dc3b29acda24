-- Attributes that stand in a leaf stay where other bytes are put.
use Rattle.std.proofs.Common.{◌≡◌, ◌⊎◌, inl, inr, ℕ, ◌+◌, ◌*◌, ◌<◌, ◌≤◌, Bool, true, false, List, [], ◌∷◌, length, take, get_or, refl, ap, subst, ◌∙◌, arith, below_more}
use Rattle.std.specs.Prelude.{slice_range, sum_by}
use Rattle.std.proofs.lemmas.List.{take-take, get_or_read, length-take}
use Rattle.std.proofs.lemmas.List.Sums.{sum_by-cons, sum_by_more, sum_by-take-le}
use Rattle.xn_bytes.specs.declared.attribute.Attribute.{Attribute}
use Rattle.xn_bytes.specs.Numbers.{number_at}
use Rattle.xn_bytes.specs.Attributes.{attribute_hash, is_local}
use Rattle.xn_bytes.specs.AttributeLeaves.{AttrEntry, attr_entry_at, attribute_at, name_size, local_size, remote_size, attribute_size}
use Rattle.xn_bytes.proofs.PlacedNumbers.{same_number}
use Rattle.xn_attrleaf.specs.Putting.{HasName, PutsAttribute, PutsEntry, PutsFirst, PutsName, Stands, entry_of, name_bytes, place_before}
use Rattle.xn_attrleaf.proofs.Frames.{piece_before, same_piece}
use Rattle.xn_attrleaf.proofs.Pieces.{same_entry}

either : (b : Bool) → (b ≡ true) ⊎ (b ≡ false)
either true = inl refl
either false = inr refl

-- ---- an attribute is read from the bytes of its name

abbrev IsSameRead : (xs ys : List ℕ) → AttrEntry → Type 0
IsSameRead xs ys entry = (attribute_at xs entry ≡ attribute_at ys entry) × (name_size xs entry ≡ name_size ys entry)

same_local : (from to : ℕ) (xs ys : List ℕ) (entry : AttrEntry) → is_local entry.flags ≡ true → from ≤ entry.place → entry.place + name_size ys entry ≤ to → to ≤ length xs → to ≤ length ys
    → slice_range xs from to ≡ slice_range ys from to → IsSameRead xs ys entry
same_local from to xs ys entry local low high wx wy same =
    let at : ℕ = entry.place in
    let n : ℕ = number_at 1 (entry.place + 2) ys in
    let v : ℕ = number_at 2 entry.place ys in
    let size : name_size ys entry ≡ local_size (number_at 1 (entry.place + 2) ys) (number_at 2 entry.place ys) = rw local refl in
    let names : number_at 1 (entry.place + 2) xs ≡ number_at 1 (entry.place + 2) ys = same_number 1 (at + 2) from to xs ys (omega arith) (omega arith) wx wy same in
    let values : number_at 2 entry.place xs ≡ number_at 2 entry.place ys = same_number 2 at from to xs ys low (omega arith) wx wy same in
    let text : slice_range xs (entry.place + 3) (entry.place + 3 + number_at 1 (entry.place + 2) ys) ≡ slice_range ys (entry.place + 3) (entry.place + 3 + number_at 1 (entry.place + 2) ys) =
    same_piece from to (at + 3) (at + 3 + n) xs ys (omega arith) (omega arith) (omega arith) wx wy same in
    let bytes : slice_range xs (entry.place + 3 + number_at 1 (entry.place + 2) ys) (entry.place + 3 + number_at 1 (entry.place + 2) ys + number_at 2 entry.place ys)
    ≡ slice_range ys (entry.place + 3 + number_at 1 (entry.place + 2) ys) (entry.place + 3 + number_at 1 (entry.place + 2) ys + number_at 2 entry.place ys) =
    same_piece from to (at + 3 + n) (at + 3 + n + v) xs ys (omega arith) (omega arith) (omega arith) wx wy same in
    (rw (local, names, values, text, bytes) refl, rw (local, names, values) refl)

same_remote : (from to : ℕ) (xs ys : List ℕ) (entry : AttrEntry) → is_local entry.flags ≡ false → from ≤ entry.place → entry.place + name_size ys entry ≤ to → to ≤ length xs → to ≤ length ys
    → slice_range xs from to ≡ slice_range ys from to → IsSameRead xs ys entry
same_remote from to xs ys entry local low high wx wy same =
    let at : ℕ = entry.place in
    let n : ℕ = number_at 1 (entry.place + 8) ys in
    let size : name_size ys entry ≡ remote_size (number_at 1 (entry.place + 8) ys) = rw local refl in
    let names : number_at 1 (entry.place + 8) xs ≡ number_at 1 (entry.place + 8) ys = same_number 1 (at + 8) from to xs ys (omega arith) (omega arith) wx wy same in
    let block : number_at 4 entry.place xs ≡ number_at 4 entry.place ys = same_number 4 at from to xs ys low (omega arith) wx wy same in
    let many : number_at 4 (entry.place + 4) xs ≡ number_at 4 (entry.place + 4) ys = same_number 4 (at + 4) from to xs ys (omega arith) (omega arith) wx wy same in
    let text : slice_range xs (entry.place + 9) (entry.place + 9 + number_at 1 (entry.place + 8) ys) ≡ slice_range ys (entry.place + 9) (entry.place + 9 + number_at 1 (entry.place + 8) ys) =
    same_piece from to (at + 9) (at + 9 + n) xs ys (omega arith) (omega arith) (omega arith) wx wy same in
    (rw (local, names, block, many, text) refl, rw (local, names) refl)

-- where a piece is the same, so are the attributes whose names lie in it
pub same_read : (from to : ℕ) (xs ys : List ℕ) (entry : AttrEntry) → from ≤ entry.place → entry.place + name_size ys entry ≤ to → to ≤ length xs → to ≤ length ys
    → slice_range xs from to ≡ slice_range ys from to → (attribute_at xs entry ≡ attribute_at ys entry) × (name_size xs entry ≡ name_size ys entry)
same_read from to xs ys entry low high wx wy same =
    elim (either (is_local entry.flags)) [
      | inl here ↦ same_local from to xs ys entry here low high wx wy same
      | inr away ↦ same_remote from to xs ys entry away low high wx wy same
    ]

-- where a piece is the same, the entry in it is
pub same_entry_at : (from to at : ℕ) (xs ys : List ℕ) → from ≤ at → at + 8 ≤ to → to ≤ length xs → to ≤ length ys → slice_range xs from to ≡ slice_range ys from to → attr_entry_at at xs ≡ attr_entry_at at ys
same_entry_at from to at xs ys low high wx wy same =
    same_entry (attr_entry_at at xs) (attr_entry_at at ys)
    (same_number 4 at from to xs ys low (omega arith) wx wy same)
    (same_number 2 (at + 4) from to xs ys (omega arith) (omega arith) wx wy same)
    (same_number 1 (at + 6) from to xs ys (omega arith) (omega arith) wx wy same)

pub has_name_same : (from to place : ℕ) (old new : List ℕ) (attribute : Attribute) → HasName place old attribute → from ≤ place → place + name_bytes attribute ≤ to → to ≤ length new → to ≤ length old
    → slice_range new from to ≡ slice_range old from to → HasName place new attribute
has_name_same from to place old new attribute has low high wx wy same =
    let both = same_read from to new old (entry_of place attribute) low (omega (arith, has.size)) wx wy same in
    record { is = both.0 ∙ has.is; size = both.1 ∙ has.size }

-- ---- one attribute is put

pub puts_attribute : (index place end hash flags : ℕ) (old one new : List ℕ) (attribute : Attribute) → length old ≡ 4096 → 80 + 8 * index + 8 ≤ place → place + name_bytes attribute ≡ end → end ≤ 4096
    → hash ≡ attribute_hash attribute → flags ≡ (entry_of place attribute).flags → PutsEntry index old one (record { hash = hash; place = place; flags = flags }) → PutsName place end one new attribute → PutsAttribute index place end old new attribute
puts_attribute index place end hash flags old one new attribute size room ends within hash_is flags_is entry name =
    let at : ℕ = 80 + 8 * index in
    let w1 : length one ≡ 4096 = entry.around.whole ∙ size in
    let w2 : length new ≡ 4096 = name.around.whole ∙ w1 in
    record {
      whole = name.around.whole ∙ entry.around.whole;
      size = ends;
      entry = same_entry_at 0 place at new one (omega arith) room (omega arith) (omega arith) name.around.before
          ∙ entry.there
          ∙ same_entry (record { hash = hash; place = place; flags = flags }) (entry_of place attribute) hash_is refl flags_is;
      name = name.there;
      before = piece_before place end 0 at one new w1 name.around (omega arith) (omega arith) (omega arith) ∙ entry.around.before;
      behind = name.around.behind ∙ same_piece (at + 8) 4096 end 4096 one old (omega arith) within (omega arith) (omega arith) (omega arith) entry.around.behind;
    }

-- ---- and one after another

pub sizes : (attributes : List Attribute) → sum_by attribute_size attributes ≡ 8 * length attributes + sum_by name_bytes attributes
sizes [] = refl
sizes (attribute ∷ others) = omega (arith, sum_by-cons attribute_size attribute others, sum_by-cons name_bytes attribute others, sizes others)

-- the names of some attributes take no more than those of more
pub fewer_bytes : (attributes : List Attribute) (few many : ℕ) → few ≤ many → sum_by name_bytes (take few attributes) ≤ sum_by name_bytes (take many attributes)
fewer_bytes attributes few many less =
    let same : take few (take many attributes) ≡ take few attributes = take-take few many attributes less in
    subst (λ (xs : List Attribute). sum_by name_bytes xs ≤ sum_by name_bytes (take many attributes)) same (sum_by-take-le name_bytes (take many attributes) few)

pub room_for : (index end : ℕ) (attributes : List Attribute) (attribute : Attribute) → index < length attributes → attribute ≡ get_or attributes index attribute → sum_by attribute_size attributes ≤ 4016
    → end + sum_by name_bytes (take index attributes) ≡ 4096 → 80 + 8 * index + 8 + name_bytes attribute ≤ end
room_for index end attributes attribute below is fits ends =
    let more : sum_by attribute_size (take (index + 1) attributes) ≤ sum_by attribute_size attributes = sum_by-take-le attribute_size attributes (index + 1) in
    let last : name_bytes attribute ≡ name_bytes (get_or attributes index attribute) = ap name_bytes is in
    omega (arith, more, last, sizes (take (index + 1) attributes), length-take (index + 1) attributes, sum_by_more name_bytes attributes index attribute below)

-- what stands stays where its entry and its name do
stands_same : (index end : ℕ) (old new : List ℕ) (attributes : List Attribute) (attribute : Attribute) → length old ≡ 4096 → length new ≡ 4096 → Stands old attributes index attribute
    → 80 + 8 * index + 8 ≤ 4096 → end ≤ place_before attributes (index + 1) → place_before attributes (index + 1) + name_bytes attribute ≤ 4096
    → slice_range new 0 (80 + 8 * index + 8) ≡ slice_range old 0 (80 + 8 * index + 8) → slice_range new end 4096 ≡ slice_range old end 4096 → Stands new attributes index attribute
stands_same index end old new attributes attribute size size2 stands room low high front back = record {
  entry = same_entry_at 0 (80 + 8 * index + 8) (80 + 8 * index) new old (omega arith) (omega arith) (omega arith) (omega arith) front ∙ stands.entry;
  name = has_name_same end 4096 (place_before attributes (index + 1)) old new attribute stands.name low high (omega arith) (omega arith) back;
}

pub puts_more : (index end place : ℕ) (old one new : List ℕ) (attributes : List Attribute) (attribute : Attribute) → length old ≡ 4096 → index < length attributes → attribute ≡ get_or attributes index attribute
    → sum_by attribute_size attributes ≤ 4016 → end + sum_by name_bytes (take index attributes) ≡ 4096 → PutsFirst index old one attributes → PutsAttribute index place end one new attribute
    → PutsFirst (index + 1) old new attributes × (place + sum_by name_bytes (take (index + 1) attributes) ≡ 4096)
puts_more index end place old one new attributes attribute size below is fits ends first put =
    let w1 : length one ≡ 4096 = first.whole ∙ size in
    let w2 : length new ≡ 4096 = put.whole ∙ w1 in
    let room : 80 + 8 * index + 8 + name_bytes attribute ≤ end = room_for index end attributes attribute below is fits ends in
    let more : sum_by name_bytes (take (index + 1) attributes) ≡ sum_by name_bytes (take index attributes) + name_bytes (get_or attributes index attribute) = sum_by_more name_bytes attributes index attribute below in
    let last : name_bytes attribute ≡ name_bytes (get_or attributes index attribute) = ap name_bytes is in
    let begins : place + sum_by name_bytes (take (index + 1) attributes) ≡ 4096 = omega (arith, put.size) in
    let here : place ≡ place_before attributes (index + 1) = omega arith in
    let earlier : (k : ℕ) → k < index → (d : Attribute) → Stands new attributes k (get_or attributes k d) =
    λ k low d.
    stands_same k end one new attributes (get_or attributes k d) w1 w2 (first.each k low d) (omega arith)
    (omega (arith, fewer_bytes attributes (k + 1) index (omega arith)))
    (omega (arith, fewer_bytes attributes (k + 1) index (omega arith), sum_by_more name_bytes attributes k d (omega arith)))
    (same_piece 0 (80 + 8 * index) 0 (80 + 8 * k + 8) new one (omega arith) (omega arith) (omega arith) (omega arith) (omega arith) put.before)
    put.behind in
    let latest : (d : Attribute) → Stands new attributes index (get_or attributes index d) =
    λ d.
    let stands : Stands new attributes index attribute = record {
      entry = subst (λ (p : ℕ). attr_entry_at (80 + 8 * index) new ≡ entry_of p attribute) here put.entry;
      name = subst (λ (p : ℕ). HasName p new attribute) here put.name;
    } in
    subst (λ (a : Attribute). Stands new attributes index a) (get_or_read attributes index attribute below is d) stands in (
      record {
        whole = put.whole ∙ first.whole;
        each = below_more (λ (k : ℕ). (d : Attribute) → Stands new attributes k (get_or attributes k d)) index earlier latest;
        before = same_piece 0 (80 + 8 * index) 0 80 new one (omega arith) (omega arith) (omega arith) (omega arith) (omega arith) put.before ∙ first.before;
      },
      begins,
    )
