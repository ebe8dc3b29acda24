-- What holds of every leaf of an attribute fork.
use Rattle.std.proofs.Common.{◌≡◌, ℕ, ◌+◌, ◌-◌, ◌*◌, ◌<◌, ◌≤◌, Bool, true, false, cond, List, [], ◌∷◌, length, drop, get_or, map, Option, Some, None, inl, inr, refl, sym, ap, subst, ◌∙◌, arith}
use Rattle.std.specs.Prelude.{slice_range, sum_by, All, IfSome}
use Rattle.std.specs.List.Sorted.{IsNonDecreasingBy}
use Rattle.std.proofs.lemmas.Bool.{cases_lt, cond_both}
use Rattle.std.proofs.lemmas.List.{get_or-drop, get_or-map, get_or_past, length-drop, length-map, length-take}
use Rattle.std.proofs.lemmas.List.Elements.{All-map, All-tail}
use Rattle.std.proofs.lemmas.List.Sums.{sum_by-cons, sum_by-le-sum_by}
use Rattle.xn_bytes.specs.Numbers.{number_at}
use Rattle.xn_bytes.specs.declared.attribute.Attribute.{Attribute}
use Rattle.xn_bytes.specs.declared.attribute.Value.TheVariants.{Here, Remote}
use Rattle.xn_bytes.specs.Attributes.{attribute_hash, is_local}
use Rattle.xn_bytes.specs.AttributeLeaves.{AttrEntry, AttrLeafHolds, IsAttrLeaf, IsWithin, attr_entries, attr_entry_at, attr_leaf_ends, attribute_at, attribute_size, entry_ends, local_size, name_length, name_place, name_size, remote_size, value_length, value_size}
use Rattle.xn_bytes.proofs.NumberLemmas.{one_byte}
use Rattle.xn_bytes.proofs.Overlays.{length-slice_range}
use Rattle.xn_attrleaf.specs.Filled.{FitsValue, IsLawfulAttribute}
use Rattle.xn_attrleaf.specs.Entries.{IsInside}
use Rattle.xn_attrleaf.specs.Sizes.{leaf_size}
use Rattle.xn_attrleaf.specs.Spans.{fit_between}
use Rattle.xn_attrleaf.specs.EntriesRead.{count_entries, last_entry_hash-place}

pub one_list : (bytes : List ℕ) (attributes others : List Attribute) → AttrLeafHolds bytes attributes → AttrLeafHolds bytes others → attributes ≡ others
one_list bytes attributes others a b = a.are ∙ sym b.are

-- ---- each attribute can stand in a leaf

small_byte : (bytes : List ℕ) (at : ℕ) → All (λ byte. byte < 256) (drop 56 bytes) → 56 ≤ at → number_at 1 at bytes ≤ 255
small_byte bytes at small low =
    let moved : get_or (drop 56 bytes) (at - 56) 0 ≡ get_or bytes at 0 = get_or-drop 56 bytes (at - 56) 0 ∙ ap (λ (i : ℕ). get_or bytes i 0) (omega arith) in
    elim (cases_lt (at - 56) (length (drop 56 bytes))) [
      | inl within ↦ let byte = small (at - 56) 0 within in omega (arith, one_byte at bytes, moved, byte)
      | inr past ↦ let none : get_or (drop 56 bytes) (at - 56) 0 ≡ 0 = get_or_past (drop 56 bytes) (at - 56) 0 past in omega (arith, one_byte at bytes, moved, none)
    ]

short_piece : (bytes : List ℕ) (from to : ℕ) → length (slice_range bytes from to) ≤ length bytes
short_piece bytes from to = omega (arith, length-take (to - from) (drop from bytes), length-drop from bytes)

short_name : (bytes : List ℕ) (from size : ℕ) → length (slice_range bytes from (from + size)) ≤ size
short_name bytes from size = omega (arith, length-take (from + size - from) (drop from bytes))

lawful_there : (bytes : List ℕ) → IsAttrLeaf bytes → (entry : AttrEntry) → IsWithin bytes entry → IsLawfulAttribute (attribute_at bytes entry)
lawful_there bytes leaf entry within =
    let far : 56 ≤ entry.place = omega (arith, leaf.apart, within.behind) in
    let few : name_length bytes entry ≤ 255 = small_byte bytes (entry.place + cond (is_local entry.flags) 2 8) leaf.are_bytes (omega arith) in
    let from = name_place entry + name_length bytes entry in
    let piece = slice_range bytes from (from + value_length bytes entry) in
    record {
      no_local_bit = omega arith;
      name = omega (arith, short_name bytes (name_place entry) (name_length bytes entry));
      value = cond_both (is_local entry.flags) (Here piece) (Remote (number_at 4 entry.place bytes) (number_at 4 (entry.place + 4) bytes)) FitsValue
          (λ local. omega (arith, short_piece bytes from (from + value_length bytes entry), leaf.whole)) (λ remote. tt);
    }

pub all_lawful : (bytes : List ℕ) (attributes : List Attribute) → AttrLeafHolds bytes attributes → All IsLawfulAttribute attributes
all_lawful bytes attributes holds =
    subst (λ (xs : List Attribute). All IsLawfulAttribute xs) (sym holds.are)
    (All-map IsLawfulAttribute (attribute_at bytes) (attr_entries bytes) (λ k d below. lawful_there bytes holds.leaf (get_or (attr_entries bytes) k d) (holds.leaf.within k d below)))

-- ---- their hashes

-- the hash of the attribute at a place is that of its entry
hash_there : (bytes : List ℕ) → IsAttrLeaf bytes → (k : ℕ) (d : Attribute) (e : AttrEntry) → k < length (attr_entries bytes) → attribute_hash (get_or (map (attribute_at bytes) (attr_entries bytes)) k d) ≡ (get_or (attr_entries bytes) k e).hash
hash_there bytes leaf k d e below = ap attribute_hash (get_or-map (attribute_at bytes) (attr_entries bytes) k e d below) ∙ sym (leaf.hashes k e below)

pub all_sorted : (bytes : List ℕ) (attributes : List Attribute) → AttrLeafHolds bytes attributes → IsNonDecreasingBy attribute_hash attributes
all_sorted bytes attributes holds =
    let entries = attr_entries bytes in
    let e : AttrEntry = attr_entry_at 80 bytes in
    subst (λ (xs : List Attribute). IsNonDecreasingBy attribute_hash xs) (sym holds.are)
    (λ i j d order below.
    let within : j < length entries = omega (arith, length-map entries (attribute_at bytes)) in
    let rise = holds.leaf.sorted i j e order within in
    omega (arith, hash_there bytes holds.leaf i d e (omega arith), hash_there bytes holds.leaf j d e within, rise))

abbrev AreBetween : List AttrEntry → ℕ × ℕ → Type 0
AreBetween entries both = (both.0 ≤ both.1) × All (λ entry. (both.0 ≤ entry.hash) × (entry.hash ≤ both.1)) entries

among_ends : (entries : List AttrEntry) → IsNonDecreasingBy (λ entry. entry.hash) entries → IfSome (entry_ends entries) (AreBetween entries)
among_ends [] sorted = tt
among_ends (entry ∷ others) sorted =
    let last = last_entry_hash-place entry others in (
      let far = sorted 0 (length others) entry (omega arith) (omega arith) in omega (arith, far, last entry),
      λ k d low. (sorted 0 k d (omega arith) low, (let far = sorted k (length others) d (omega arith) (omega arith) in omega (arith, far, last d))),
    )

attributes_between : (bytes : List ℕ) → IsAttrLeaf bytes → (both : ℕ × ℕ) → AreBetween (attr_entries bytes) both
    → (both.0 ≤ both.1) × All (λ attribute. (both.0 ≤ attribute_hash attribute) × (attribute_hash attribute ≤ both.1)) (map (attribute_at bytes) (attr_entries bytes))
attributes_between bytes leaf both between = (
  between.0,
  All-map (λ attribute. (both.0 ≤ attribute_hash attribute) × (attribute_hash attribute ≤ both.1)) (attribute_at bytes) (attr_entries bytes)
      (λ k d below. let here = between.1 k d below in let hash = leaf.hashes k d below in (omega (arith, here.0, hash), omega (arith, here.1, hash))),
)

mapped_ends : (ends : Option (ℕ × ℕ)) (P Q : ℕ × ℕ → Type 0) → ((both : ℕ × ℕ) → P both → Q both) → IfSome ends P → IfSome ends Q
mapped_ends None P Q to holds = tt
mapped_ends (Some both) P Q to holds = to both holds

pub between_ends : (bytes : List ℕ) (attributes : List Attribute) → AttrLeafHolds bytes attributes
    → IfSome (attr_leaf_ends bytes) (λ both. (both.0 ≤ both.1) × All (λ attribute. (both.0 ≤ attribute_hash attribute) × (attribute_hash attribute ≤ both.1)) attributes)
between_ends bytes attributes holds =
    subst (λ (xs : List Attribute). IfSome (attr_leaf_ends bytes) (λ both. (both.0 ≤ both.1) × All (λ attribute. (both.0 ≤ attribute_hash attribute) × (attribute_hash attribute ≤ both.1)) xs)) (sym holds.are)
    (mapped_ends (attr_leaf_ends bytes) (AreBetween (attr_entries bytes)) _ (attributes_between bytes holds.leaf) (among_ends (attr_entries bytes) holds.leaf.sorted))

none_there : (bytes : List ℕ) (entries : List AttrEntry) → entry_ends entries ≡ None → map (attribute_at bytes) entries ≡ []
none_there bytes [] none = refl
none_there bytes (entry ∷ others) none = absurd cc

pub no_ends : (bytes : List ℕ) (attributes : List Attribute) → AttrLeafHolds bytes attributes → attr_leaf_ends bytes ≡ None → attributes ≡ []
no_ends bytes attributes holds none = holds.are ∙ none_there bytes (attr_entries bytes) none

-- ---- their sizes

size_read : (local : Bool) (bytes : List ℕ) (place name value first size : ℕ) → length bytes ≡ 4096 → place + cond local (local_size name value) (remote_size name) ≤ 4096
    → value_size (length (slice_range bytes (place + cond local 3 9) (place + cond local 3 9 + name)))
    (cond local (Here (slice_range bytes (place + cond local 3 9 + name) (place + cond local 3 9 + name + value))) (Remote first size)) ≡ cond local (local_size name value) (remote_size name)
size_read true bytes place name value first size whole inside =
    let one : length (slice_range bytes (place + 3) (place + 3 + name)) ≡ name = omega (arith, length-slice_range bytes (place + 3) (place + 3 + name) (omega arith)) in
    let two : length (slice_range bytes (place + 3 + name) (place + 3 + name + value)) ≡ value = omega (arith, length-slice_range bytes (place + 3 + name) (place + 3 + name + value) (omega arith)) in
    rw (one, two) refl
size_read false bytes place name value first size whole inside =
    let one : length (slice_range bytes (place + 9) (place + 9 + name)) ≡ name = omega (arith, length-slice_range bytes (place + 9) (place + 9 + name) (omega arith)) in
    rw one refl

size_there : (bytes : List ℕ) (entry : AttrEntry) → length bytes ≡ 4096 → IsInside bytes entry → attribute_size (attribute_at bytes entry) ≡ 8 + name_size bytes entry
size_there bytes entry whole inside =
    ap (λ (n : ℕ). 8 + n) (size_read (is_local entry.flags) bytes entry.place (name_length bytes entry) (value_length bytes entry) (number_at 4 entry.place bytes) (number_at 4 (entry.place + 4) bytes) whole inside)

sizes_there : (bytes : List ℕ) (entries : List AttrEntry) → length bytes ≡ 4096 → All (IsInside bytes) entries
    → sum_by attribute_size (map (attribute_at bytes) entries) ≡ 8 * length entries + sum_by (name_size bytes) entries
sizes_there bytes [] whole all = refl
sizes_there bytes (entry ∷ others) whole all =
    let one = size_there bytes entry whole (all 0 entry (omega arith)) in
    let rest = sizes_there bytes others whole (All-tail (IsInside bytes) entry others all) in
    let left = sum_by-cons attribute_size (attribute_at bytes entry) (map (attribute_at bytes) others) in
    let right = sum_by-cons (name_size bytes) entry others in
    omega (arith, one, rest, left, right)

-- where no name has a place there is none
nothing_beyond : (bytes : List ℕ) → IsAttrLeaf bytes → 4096 < number_at 2 60 bytes → (entries : List AttrEntry) → entries ≡ attr_entries bytes → 8 * number_at 2 56 bytes + sum_by (name_size bytes) entries ≤ 4016
nothing_beyond bytes leaf beyond [] are =
    let none = ap length are in
    omega (arith, none, count_entries (number_at 2 56 bytes) 80 bytes)
nothing_beyond bytes leaf beyond (entry ∷ others) are =
    let some = ap length are in
    let first = leaf.within 0 entry (omega (arith, some)) in
    absurd (omega (arith, first.behind, first.before_end))

all_within : (bytes : List ℕ) → IsAttrLeaf bytes → 8 * number_at 2 56 bytes + sum_by (name_size bytes) (attr_entries bytes) ≤ 4016
all_within bytes leaf =
    let count = count_entries (number_at 2 56 bytes) 80 bytes in
    elim (cases_lt 4096 (number_at 2 60 bytes)) [
      | inl beyond ↦ nothing_beyond bytes leaf beyond (attr_entries bytes) refl
      | inr order ↦
          let fit = fit_between bytes (number_at 2 60 bytes) 4096 (attr_entries bytes) order
          (λ k d below. let one = leaf.within k d below in record { behind = one.behind; before = one.before_end }) leaf.disjoint in
          omega (arith, fit, leaf.apart)
    ]

pub few_bytes : (bytes : List ℕ) (attributes : List Attribute) → AttrLeafHolds bytes attributes → sum_by leaf_size attributes ≤ 4016
few_bytes bytes attributes holds =
    let leaf = holds.leaf in
    let sum = ap (sum_by attribute_size) holds.are in
    let sizes = sizes_there bytes (attr_entries bytes) leaf.whole (λ k d below. (leaf.within k d below).before_end) in
    let count = count_entries (number_at 2 56 bytes) 80 bytes in
    omega (arith, sum, sizes, count, all_within bytes leaf, sum_by-le-sum_by leaf_size attribute_size attributes (λ attribute. omega arith))

pub some_size : (attribute : Attribute) → IsLawfulAttribute attribute → 0 < leaf_size attribute
some_size attribute lawful = omega arith

-- Where attributes fit in a leaf, none is too large, and these are their own sizes.
pub same_sizes : (attributes : List Attribute) → sum_by leaf_size attributes ≤ 4016 → sum_by attribute_size attributes ≡ sum_by leaf_size attributes
same_sizes [] fit = refl
same_sizes (attribute ∷ others) fit =
    let left = sum_by-cons attribute_size attribute others in
    let right = sum_by-cons leaf_size attribute others in
    let rest = same_sizes others (omega (arith, right)) in
    omega (arith, left, right, rest)
