-- Listed entries that are sorted by name, and their lines.
use Rattle.std.proofs.Common.{◌≡◌, ℕ, ◌+◌, ◌<◌, List, [], ◌∷◌, length, map, get_or, slice_set, refl, sym, ap, subst, ◌∙◌, arith}
use Rattle.std.specs.Prelude.{IsPermutation, IsSortedBy}
use Rattle.std.specs.Ordering.{nat_cmp, is_lt}
use Rattle.std.specs.Cmp.Lexicographic.{slice_cmp}
use Rattle.std.specs.List.{swap}
use Rattle.std.proofs.lemmas.List.{get_or-map, length-map, map-set}
use Rattle.std.proofs.lemmas.List.Sorted.{IsPermutation-keeps, IsPermutation-map, IsPermutation-refl, IsPermutation-swap, IsPermutation-trans}
use Rattle.std.proofs.lemmas.Simd.{map-map}
use Rattle.xn_bytes.specs.Directory.{IsBefore, HasNames, IsListing}
use Rattle.xn_meaning.specs.Replies as said
use Rattle.xn_dir.specs.declared.listing.Listed.{Listed}
use Rattle.xn_dir.specs.Listings.{entry_of, name_of}
use Rattle.xn_dir.proofs.Names.{adjacent_map, sorted_map, rising_where_once}
use Rattle.xn_dir.proofs.Collecting.{once_names}
use Rattle.xn_text.specs.declared.line.ListLine.{ListLine}
use Rattle.xn_text.specs.Viewed.{line_of}
use Rattle.xn_ns.specs.Lines.{AreLinesOf, listed_line}

-- no name comes before the one in front of it
abbrev pub AreSortedByName : List ListLine → Type 0
AreSortedByName lines = IsSortedBy (λ a b. is_lt (slice_cmp nat_cmp a.name b.name)) lines

-- a list's elements in the order in which their lines stand
record Before (listed : List Listed) (lines : List ListLine) : Type 0 where
  after : List Listed
  moved : IsPermutation listed after
  same : map listed_line after ≡ lines

map-swap : {X Y : Type 0} (f : X → Y) (xs : List X) (i j : ℕ) → i < length xs → j < length xs → map f (swap xs i j) ≡ swap (map f xs) i j
map-swap f [] i j li lj = absurd (omega (arith, li))
map-swap f (x ∷ xs) i j li lj =
    let all = x ∷ xs in
    map-set f (slice_set all i (get_or all j x)) j (get_or all i x)
    ∙ ap (λ ys. slice_set ys j (f (get_or all i x))) (map-set f all i (get_or all j x))
    ∙ ap (λ y. slice_set (slice_set (map f all) i y) j (f (get_or all i x))) (sym (get_or-map f all j x (f x) lj))
    ∙ ap (λ y. slice_set (slice_set (map f all) i (get_or (map f all) j (f x))) j y) (sym (get_or-map f all i x (f x) li))

-- lines that were moved are those of entries that were moved
moved_lines : (listed : List Listed) (lines : List ListLine) → IsPermutation (map listed_line listed) lines → Before listed lines
moved_lines listed lines moved =
    IsPermutation-keeps (map listed_line listed) (Before listed) (record { after = listed; moved = IsPermutation-refl listed; same = refl })
    (λ here i j li lj before.
    let long : length here ≡ length before.after = ap length (sym before.same) ∙ length-map before.after listed_line in
    record {
      after = swap before.after i j;
      moved = IsPermutation-trans listed before.after (swap before.after i j) before.moved (IsPermutation-swap before.after (swap before.after i j) i j (omega (arith, long, li)) (omega (arith, long, lj)) refl);
      same = map-swap listed_line before.after i j (omega (arith, long, li)) (omega (arith, long, lj)) ∙ ap (λ (ls : List ListLine). swap ls i j) before.same;
    }) lines moved

-- entries with names, moved so that they are sorted, are a listing
is_listing : (before after : List Listed) → HasNames (map entry_of before) → IsPermutation before after → IsSortedBy (λ a b. is_lt (slice_cmp nat_cmp (name_of a) (name_of b))) after → IsListing (map entry_of before) (map entry_of after)
is_listing before after right moved sorted = record {
  same = IsPermutation-map entry_of before after moved;
  rising =
      adjacent_map entry_of IsBefore after
      (rising_where_once name_of (map name_of before) after (IsPermutation-map name_of before after moved) (sorted_map name_of (λ a b. is_lt (slice_cmp nat_cmp a b)) after sorted) (once_names before right.once));
}

-- entries are sorted where their lines are
sorted_entries : (listed : List Listed) → AreSortedByName (map listed_line listed) → IsSortedBy (λ a b. is_lt (slice_cmp nat_cmp (name_of a) (name_of b))) listed
sorted_entries listed sorted k d from below =
    let within : k + 1 < length (map listed_line listed) = rw (length-map listed listed_line) below in
    rw (get_or-map listed_line listed k d (listed_line d) (omega (arith, below)), get_or-map listed_line listed (k + 1) d (listed_line d) below) at (sorted k (listed_line d) from within)

-- a line says what its entry says
said_alike : (listed : List Listed) → map line_of (map listed_line listed) ≡ map said.line_of (map entry_of listed)
said_alike listed = map-map line_of listed_line listed ∙ sym (map-map said.line_of entry_of listed)

pub are_lines : (listed : List Listed) (lines : List ListLine) → HasNames (map entry_of listed) → IsPermutation (map listed_line listed) lines → AreSortedByName lines → AreLinesOf (map entry_of listed) (map line_of lines)
are_lines listed lines right moved sorted =
    let before = moved_lines listed lines moved in (
      map entry_of before.after,
      is_listing listed before.after right before.moved (sorted_entries before.after (subst AreSortedByName (sym before.same) sorted)),
      ap (λ (ls : List ListLine). map line_of ls) (sym before.same) ∙ said_alike before.after,
    )
