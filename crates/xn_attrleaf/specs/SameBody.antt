-- Leaves that differ in their headers' first 56 bytes alone have the same attributes.
use Rattle.std.proofs.Common.{◌≡◌, inl, inr, ℕ, zero, suc, ◌+◌, ◌-◌, ◌<◌, ◌≤◌, cond, List, [], ◌∷◌, drop, take, get_or, map, refl, sym, ap, subst, ◌∙◌, arith}
use Rattle.std.specs.Prelude.{slice_range, sum_by, All, AllPairs}
use Rattle.std.specs.List.Sorted.{IsNonDecreasingBy}
use Rattle.std.proofs.lemmas.List.{drop-drop}
use Rattle.std.proofs.lemmas.List.Elements.{All-tail}
use Rattle.std.proofs.lemmas.List.Sums.{sum_by-cons}
use Rattle.byteorder.specs.Endian.{big_number}
use Rattle.xn_bytes.specs.Numbers.{number_at}
use Rattle.xn_bytes.specs.declared.attribute.Attribute.{Attribute}
use Rattle.xn_bytes.specs.Attributes.{attribute_hash, is_local}
use Rattle.xn_bytes.specs.AttributeLeaves.{AreDisjoint, AttrEntry, AttrLeafHolds, IsAttrLeaf, IsWithin, attr_entries, attr_entries_at, attr_entry_at, attr_leaf_ends, attribute_at, entry_ends, local_size, name_length, name_place, name_size, remote_size, value_length}
use Rattle.xn_datree.specs.Leaves.{HasSameBody}

-- ---- where two blocks are the same from a place on

pub drop_same : (from at : ℕ) (xs ys : List ℕ) → from ≤ at → drop from xs ≡ drop from ys → drop at xs ≡ drop at ys
drop_same from at xs ys low same =
    let back : from + (at - from) ≡ at = omega arith in
    ap (λ (n : ℕ). drop n xs) (sym back) ∙ sym (drop-drop (at - from) from xs) ∙ ap (drop (at - from)) same ∙ drop-drop (at - from) from ys ∙ ap (λ (n : ℕ). drop n ys) back

pub number_same : (width from at : ℕ) (xs ys : List ℕ) → from ≤ at → drop from xs ≡ drop from ys → number_at width at xs ≡ number_at width at ys
unfolding number_at
number_same width from at xs ys low same = ap (big_number width) (drop_same from at xs ys low same)

pub piece_same : (from at to : ℕ) (xs ys : List ℕ) → from ≤ at → drop from xs ≡ drop from ys → slice_range xs at to ≡ slice_range ys at to
piece_same from at to xs ys low same = ap (take (to - at)) (drop_same from at xs ys low same)

-- ---- entries and their names

entry_same : (at : ℕ) (xs ys : List ℕ) → 56 ≤ at → drop 56 xs ≡ drop 56 ys → attr_entry_at at xs ≡ attr_entry_at at ys
entry_same at xs ys low same =
    let hash : number_at 4 at xs ≡ number_at 4 at ys = number_same 4 56 at xs ys low same in
    let place : number_at 2 (at + 4) xs ≡ number_at 2 (at + 4) ys = number_same 2 56 (at + 4) xs ys (omega arith) same in
    let flags : number_at 1 (at + 6) xs ≡ number_at 1 (at + 6) ys = number_same 1 56 (at + 6) xs ys (omega arith) same in
    rw (hash, place, flags) refl

entries_same : (count at : ℕ) (xs ys : List ℕ) → 56 ≤ at → drop 56 xs ≡ drop 56 ys → attr_entries_at count at xs ≡ attr_entries_at count at ys
entries_same zero at xs ys low same = refl
entries_same (suc count) at xs ys low same =
    ap (λ (entry : AttrEntry). entry ∷ attr_entries_at count (at + 8) xs) (entry_same at xs ys low same)
    ∙ ap (λ (others : List AttrEntry). attr_entry_at at ys ∷ others) (entries_same count (at + 8) xs ys (omega arith) same)

all_same : (xs ys : List ℕ) → drop 56 xs ≡ drop 56 ys → attr_entries xs ≡ attr_entries ys
all_same xs ys same =
    ap (λ (n : ℕ). attr_entries_at n 80 xs) (number_same 2 56 56 xs ys (omega arith) same) ∙ entries_same (number_at 2 56 ys) 80 xs ys (omega arith) same

name_length_same : (xs ys : List ℕ) (entry : AttrEntry) → 56 ≤ entry.place → drop 56 xs ≡ drop 56 ys → name_length xs entry ≡ name_length ys entry
name_length_same xs ys entry far same = number_same 1 56 (entry.place + cond (is_local entry.flags) 2 8) xs ys (omega arith) same

value_length_same : (xs ys : List ℕ) (entry : AttrEntry) → 56 ≤ entry.place → drop 56 xs ≡ drop 56 ys → value_length xs entry ≡ value_length ys entry
value_length_same xs ys entry far same = number_same 2 56 entry.place xs ys far same

size_same : (xs ys : List ℕ) (entry : AttrEntry) → 56 ≤ entry.place → drop 56 xs ≡ drop 56 ys → name_size xs entry ≡ name_size ys entry
size_same xs ys entry far same =
    let local = is_local entry.flags in
    ap (λ (n : ℕ). cond local (local_size n (value_length xs entry)) (remote_size n)) (name_length_same xs ys entry far same)
    ∙ ap (λ (n : ℕ). cond local (local_size (name_length ys entry) n) (remote_size (name_length ys entry))) (value_length_same xs ys entry far same)

attribute_same : (xs ys : List ℕ) (entry : AttrEntry) → 56 ≤ entry.place → drop 56 xs ≡ drop 56 ys → attribute_at xs entry ≡ attribute_at ys entry
attribute_same xs ys entry far same =
    let n : name_length xs entry ≡ name_length ys entry = name_length_same xs ys entry far same in
    let v : value_length xs entry ≡ value_length ys entry = value_length_same xs ys entry far same in
    let first : number_at 4 entry.place xs ≡ number_at 4 entry.place ys = number_same 4 56 entry.place xs ys far same in
    let size : number_at 4 (entry.place + 4) xs ≡ number_at 4 (entry.place + 4) ys = number_same 4 56 (entry.place + 4) xs ys (omega arith) same in
    let at = name_place entry in
    let end = at + name_length ys entry in
    let name : slice_range xs at end ≡ slice_range ys at end = piece_same 56 at end xs ys (omega arith) same in
    let value : slice_range xs end (end + value_length ys entry) ≡ slice_range ys end (end + value_length ys entry) = piece_same 56 end (end + value_length ys entry) xs ys (omega arith) same in
    rw (n, v, first, size, name, value) refl

-- ---- facts of all entries

abbrev AreFar : List AttrEntry → Type 0
AreFar entries = All (λ entry. 56 ≤ entry.place) entries

far_there : (bytes : List ℕ) → IsAttrLeaf bytes → AreFar (attr_entries bytes)
far_there bytes leaf k d below = let one = leaf.within k d below in omega (arith, one.behind, leaf.apart)

sum_same : (xs ys : List ℕ) (entries : List AttrEntry) → AreFar entries → drop 56 xs ≡ drop 56 ys → sum_by (name_size xs) entries ≡ sum_by (name_size ys) entries
sum_same xs ys [] far same = refl
sum_same xs ys (entry ∷ others) far same =
    let rest = sum_same xs ys others (All-tail (λ one. 56 ≤ one.place) entry others far) same in
    let one = size_same xs ys entry (far 0 entry (omega arith)) same in
    omega (arith, sum_by-cons (name_size xs) entry others, sum_by-cons (name_size ys) entry others, rest, one)

map_same : (xs ys : List ℕ) (entries : List AttrEntry) → AreFar entries → drop 56 xs ≡ drop 56 ys → map (attribute_at xs) entries ≡ map (attribute_at ys) entries
map_same xs ys [] far same = refl
map_same xs ys (entry ∷ others) far same =
    ap (λ (one : Attribute). one ∷ map (attribute_at xs) others) (attribute_same xs ys entry (far 0 entry (omega arith)) same)
    ∙ ap (λ (rest : List Attribute). attribute_at ys entry ∷ rest) (map_same xs ys others (All-tail (λ one. 56 ≤ one.place) entry others far) same)

within_same : (xs ys : List ℕ) (entry : AttrEntry) → 56 ≤ entry.place → drop 56 xs ≡ drop 56 ys → IsWithin ys entry → IsWithin xs entry
within_same xs ys entry far same within = record {
  behind = omega (arith, number_same 2 56 60 xs ys (omega arith) same, within.behind);
  before_end = omega (arith, size_same xs ys entry far same, within.before_end);
}

apart_same : (xs ys : List ℕ) (a b : AttrEntry) → 56 ≤ a.place → 56 ≤ b.place → drop 56 xs ≡ drop 56 ys → AreDisjoint ys a b → AreDisjoint xs a b
apart_same xs ys a b far_a far_b same apart = elim apart [
  | inl before ↦ inl (omega (arith, size_same xs ys a far_a same, before))
  | inr after ↦ inr (omega (arith, size_same xs ys b far_b same, after))
]

leaf_same : (bytes others : List ℕ) → HasSameBody bytes others → IsAttrLeaf bytes → IsAttrLeaf others
leaf_same bytes others same leaf =
    let entries = attr_entries bytes in
    let far = far_there bytes leaf in
    let are : attr_entries bytes ≡ attr_entries others = sym (all_same others bytes same.body) in
    let sum : sum_by (name_size others) entries ≡ sum_by (name_size bytes) entries = sum_same others bytes entries far same.body in
    record {
      whole = same.whole.1;
      are_bytes = subst (λ (xs : List ℕ). All (λ byte. byte < 256) xs) (sym same.body) leaf.are_bytes;
      is_magic = same.magic ∙ leaf.is_magic;
      checksum = same.checksum_too;
      apart = omega (arith, number_same 2 56 56 others bytes (omega arith) same.body, number_same 2 56 60 others bytes (omega arith) same.body, leaf.apart);
      within = subst (λ (xs : List AttrEntry). All (IsWithin others) xs) are
          (λ k d below. within_same others bytes (get_or entries k d) (far k d below) same.body (leaf.within k d below));
      disjoint = subst (λ (xs : List AttrEntry). AllPairs (AreDisjoint others) xs) are
          (λ i j d low below. apart_same others bytes (get_or entries i d) (get_or entries j d) (far i d (omega arith)) (far j d below) same.body (leaf.disjoint i j d low below));
      used = number_same 2 56 58 others bytes (omega arith) same.body ∙ leaf.used ∙ sym sum ∙ ap (sum_by (name_size others)) are;
      sorted = subst (λ (xs : List AttrEntry). IsNonDecreasingBy (λ entry. entry.hash) xs) are leaf.sorted;
      hashes = subst (λ (xs : List AttrEntry). All (λ entry. entry.hash ≡ attribute_hash (attribute_at others entry)) xs) are
          (λ k d below. leaf.hashes k d below ∙ ap attribute_hash (sym (attribute_same others bytes (get_or entries k d) (far k d below) same.body)));
    }

pub same_body : (bytes others : List ℕ) (attributes : List Attribute) → HasSameBody bytes others → AttrLeafHolds bytes attributes → AttrLeafHolds others attributes × (attr_leaf_ends others ≡ attr_leaf_ends bytes)
same_body bytes others attributes same holds =
    let are : attr_entries others ≡ attr_entries bytes = all_same others bytes same.body in (
      record {
        leaf = leaf_same bytes others same holds.leaf;
        are = holds.are ∙ sym (map_same others bytes (attr_entries bytes) (far_there bytes holds.leaf) same.body) ∙ ap (map (attribute_at others)) (sym are);
      },
      ap entry_ends are,
    )
