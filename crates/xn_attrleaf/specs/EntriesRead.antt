-- Entries of an attribute leaf, one by one.
use Rattle.std.proofs.Common.{◌≡◌, inl, inr, ℕ, zero, suc, ◌+◌, ◌-◌, ◌*◌, ◌<◌, ◌≤◌, Bool, true, false, cond, List, [], ◌∷◌, ◌++◌, length, get_or, map, Some, refl, sym, ap, subst, ◌∙◌, add-one, append_assoc, arith}
use Rattle.std.specs.Prelude.{sum_by, All}
use Rattle.std.proofs.lemmas.List.Sums.{sum_by-cons}
use borrow.Author.Count.{below_more}
use Rattle.xn_bytes.specs.Numbers.{number_at}
use Rattle.xn_bytes.specs.Attributes.{is_local}
use Rattle.xn_bytes.specs.AttributeLeaves.{AttrEntry, IsAttrLeaf, IsWithin, attr_entries, attr_entries_at, attr_entry_at, entry_ends, last_entry_hash, local_size, name_length, name_size, remote_size, value_length}
use Rattle.xn_attrleaf.specs.Entries.{HasHead, HasRoom, IsInside}
use Rattle.std.proofs.lemmas.Bool.{cases_lt}

-- ---- side by side

pub entries_step : (left rest at next : ℕ) (bytes : List ℕ) → left ≡ rest + 1 → next ≡ at + 8 → attr_entries_at left at bytes ≡ attr_entry_at at bytes ∷ attr_entries_at rest next bytes
entries_step left rest at next bytes e n = rw (n, e, add-one) refl

pub count_entries : (count at : ℕ) (bytes : List ℕ) → length (attr_entries_at count at bytes) ≡ count
count_entries zero at bytes = refl
count_entries (suc count) at bytes = ap suc (count_entries count (at + 8) bytes)

pub entry_is : (count at k : ℕ) (bytes : List ℕ) (d : AttrEntry) → k < count → get_or (attr_entries_at count at bytes) k d ≡ attr_entry_at (at + 8 * k) bytes
entry_is zero at k bytes d h = absurd (omega arith)
entry_is (suc count) at zero bytes d h = let same : at + 8 * 0 ≡ at = omega arith in rw same refl
entry_is (suc count) at (suc k) bytes d h =
    let same : at + 8 + 8 * k ≡ at + 8 * suc k = omega arith in
    entry_is count (at + 8) k bytes d (omega arith) ∙ ap (λ (n : ℕ). attr_entry_at n bytes) same

-- the entries from an index on, of so many
abbrev pub entries_from : ℕ → ℕ → List ℕ → List AttrEntry
entries_from index count bytes = attr_entries_at (count - index) (80 + 8 * index) bytes

pub from_step : (index count : ℕ) (entry : AttrEntry) (bytes : List ℕ) → index < count → entry ≡ attr_entry_at (80 + 8 * index) bytes → entries_from index count bytes ≡ entry ∷ entries_from (index + 1) count bytes
from_step index count entry bytes below is =
    entries_step (count - index) (count - (index + 1)) (80 + 8 * index) (80 + 8 * (index + 1)) bytes (omega arith) (omega arith)
    ∙ ap (λ (one : AttrEntry). one ∷ entries_from (index + 1) count bytes) (sym is)

pub none_left : (index count : ℕ) (bytes : List ℕ) → count ≤ index → entries_from index count bytes ≡ []
none_left index count bytes past = let none : count - index ≡ 0 = omega arith in ap (λ (n : ℕ). attr_entries_at n (80 + 8 * index) bytes) none

pub all_left : (count : ℕ) (bytes : List ℕ) → entries_from 0 count bytes ≡ attr_entries_at count 80 bytes
all_left count bytes = ap (λ (n : ℕ). attr_entries_at n 80 bytes) (omega arith)

-- ---- what holds of each

-- a fact of the first entries
abbrev pub AllBelow : (AttrEntry → Type 0) → List ℕ → ℕ → Type 0
AllBelow P bytes n = (k : ℕ) → k < n → P (attr_entry_at (80 + 8 * k) bytes)

pub below_one_more : (P : AttrEntry → Type 0) (bytes : List ℕ) (n : ℕ) (entry : AttrEntry) → entry ≡ attr_entry_at (80 + 8 * n) bytes → AllBelow P bytes n → P entry → AllBelow P bytes (n + 1)
below_one_more P bytes n entry is all here = below_more (λ k. P (attr_entry_at (80 + 8 * k) bytes)) n all (subst P is here)

pub all_entries : (P : AttrEntry → Type 0) (bytes : List ℕ) (n : ℕ) → number_at 2 56 bytes ≤ n → AllBelow P bytes n → All P (attr_entries bytes)
all_entries P bytes n many all k d below =
    let within : k < number_at 2 56 bytes = omega (arith, count_entries (number_at 2 56 bytes) 80 bytes) in
    subst P (sym (entry_is (number_at 2 56 bytes) 80 k bytes d within)) (all k (omega arith))

pub each_entry : (P : AttrEntry → Type 0) (bytes : List ℕ) (k : ℕ) (entry : AttrEntry) → All P (attr_entries bytes) → k < number_at 2 56 bytes → entry ≡ attr_entry_at (80 + 8 * k) bytes → P entry
each_entry P bytes k entry all below is =
    subst P (entry_is (number_at 2 56 bytes) 80 k bytes entry below ∙ sym is) (all k entry (omega (arith, count_entries (number_at 2 56 bytes) 80 bytes)))

-- ---- sums and maps

pub sum_step : (f : AttrEntry → ℕ) (all index count used more : ℕ) (entry : AttrEntry) (bytes : List ℕ) → index < count → entry ≡ attr_entry_at (80 + 8 * index) bytes → more ≡ f entry
    → used + sum_by f (entries_from index count bytes) ≡ all → used + more + sum_by f (entries_from (index + 1) count bytes) ≡ all
sum_step f all index count used more entry bytes below is by so_far =
    let step = ap (sum_by f) (from_step index count entry bytes below is) in
    let cons = sum_by-cons f entry (entries_from (index + 1) count bytes) in
    omega (arith, step, cons)

pub map_step : {X : Type 0} (f : AttrEntry → X) (all items new : List X) (x : X) (index count : ℕ) (entry : AttrEntry) (bytes : List ℕ) → index < count → entry ≡ attr_entry_at (80 + 8 * index) bytes → x ≡ f entry → new ≡ items ++ x ∷ []
    → items ++ map f (entries_from index count bytes) ≡ all → new ++ map f (entries_from (index + 1) count bytes) ≡ all
map_step {X} f all items new x index count entry bytes below is by grown so_far =
    let rest : List X = map f (entries_from (index + 1) count bytes) in
    let step : map f (entries_from index count bytes) ≡ f entry ∷ rest = ap (map f) (from_step index count entry bytes below is) in
    ap (λ (xs : List X). xs ++ rest) grown
    ∙ append_assoc items (x ∷ []) rest
    ∙ ap (λ (one : X). items ++ (one ∷ rest)) by
    ∙ sym (ap (λ (xs : List X). items ++ xs) step) ∙ so_far

-- ---- the ends

pub last_entry_hash-place : (entry : AttrEntry) (others : List AttrEntry) (d : AttrEntry) → last_entry_hash entry others ≡ (get_or (entry ∷ others) (length others) d).hash
last_entry_hash-place entry [] d = refl
last_entry_hash-place entry (next ∷ others) d = last_entry_hash-place next others d

ends_of_entries : (entries : List AttrEntry) (d : AttrEntry) → 1 ≤ length entries → entry_ends entries ≡ Some ((get_or entries 0 d).hash, (get_or entries (length entries - 1) d).hash)
ends_of_entries [] d some = absurd (omega arith)
ends_of_entries (entry ∷ others) d some =
    let place : length (entry ∷ others) - 1 ≡ length others = omega arith in
    rw (place, last_entry_hash-place entry others d) refl

pub ends_at : (count : ℕ) (bytes : List ℕ) (first last : AttrEntry) → 1 ≤ count → first ≡ attr_entry_at (80 + 8 * 0) bytes → last ≡ attr_entry_at (80 + 8 * (count - 1)) bytes → Some (first.hash, last.hash) ≡ entry_ends (attr_entries_at count 80 bytes)
ends_at count bytes first last some is_first is_last =
    let many = count_entries count 80 bytes in
    let a : get_or (attr_entries_at count 80 bytes) 0 first ≡ first = entry_is count 80 0 bytes first (omega arith) ∙ sym is_first in
    let b : get_or (attr_entries_at count 80 bytes) (count - 1) first ≡ last = entry_is count 80 (count - 1) bytes first (omega arith) ∙ sym is_last in
    let ends = ends_of_entries (attr_entries_at count 80 bytes) first (omega (arith, many)) in
    sym (rw (many, a, b) at ends)

-- ---- sizes

head_from : (b : Bool) (place near far : ℕ) → 4 ≤ near → 12 ≤ far → place + cond b near far ≤ 4096 → place + cond b 4 12 ≤ 4096
head_from true place near far n f h = omega arith
head_from false place near far n f h = omega arith

local_least : (name value : ℕ) → 4 ≤ local_size name value
local_least name value = omega arith

remote_least : (name : ℕ) → 12 ≤ remote_size name
remote_least name = omega arith

pub inside_head : (bytes : List ℕ) (entry : AttrEntry) → IsInside bytes entry → HasHead entry
inside_head bytes entry inside =
    head_from (is_local entry.flags) entry.place (local_size (name_length bytes entry) (value_length bytes entry)) (remote_size (name_length bytes entry)) (local_least _ _) (remote_least _) inside

some_from : (b : Bool) (near far : ℕ) → 4 ≤ near → 12 ≤ far → 0 < cond b near far
some_from true near far n f = omega arith
some_from false near far n f = omega arith

pub some_bytes : (bytes : List ℕ) (entry : AttrEntry) → 0 < name_size bytes entry
some_bytes bytes entry =
    some_from (is_local entry.flags) (local_size (name_length bytes entry) (value_length bytes entry)) (remote_size (name_length bytes entry)) (local_least _ _) (remote_least _)

-- an entry that was read lies in the leaf
pub entry_inside : (bytes : List ℕ) (k : ℕ) (entry : AttrEntry) → All (IsWithin bytes) (attr_entries bytes) → k < number_at 2 56 bytes → entry ≡ attr_entry_at (80 + 8 * k) bytes → IsInside bytes entry
entry_inside bytes k entry all below is = (each_entry (IsWithin bytes) bytes k entry all below is).before_end

pub entry_head : (bytes : List ℕ) (k : ℕ) (entry : AttrEntry) → All (IsWithin bytes) (attr_entries bytes) → k < number_at 2 56 bytes → entry ≡ attr_entry_at (80 + 8 * k) bytes → HasHead entry
entry_head bytes k entry all below is = inside_head bytes entry (entry_inside bytes k entry all below is)

-- where there is an entry, its name lies behind all entries and within the leaf
pub has_room : (bytes : List ℕ) → IsAttrLeaf bytes → HasRoom bytes
has_room bytes leaf = record {
  apart = leaf.apart;
  few = elim (cases_lt 0 (number_at 2 56 bytes)) [
    | inl some ↦
        let first : AttrEntry = attr_entry_at (80 + 8 * 0) bytes in
        let one = each_entry (IsWithin bytes) bytes 0 first leaf.within some refl in
        omega (arith, leaf.apart, one.behind, one.before_end)
    | inr none ↦ omega arith
  ];
}
