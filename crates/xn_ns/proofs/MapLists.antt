-- The list of a directory of an image that has a map of its names.
use Rattle.std.proofs.Common.{◌≡◌, ℕ, List, map, get_or, Some, sym, subst, inl, inr}
use Rattle.std.specs.Prelude.{Contains}
use Rattle.std.specs.Ordering.{nat_cmp}
use Rattle.std.specs.Cmp.Lexicographic.{slice_cmp}
use Rattle.std.specs.declared.cmp.Ordering.TheVariants.{Less}
use Rattle.std.proofs.lemmas.List.Elements.{All-map, Contains-get_or}
use Rattle.std.proofs.lemmas.List.Sorted.{Contains-permutation, IsPermutation-sym}
use Rattle.xn_bytes.specs.Superblock.{Geometry}
use Rattle.xn_bytes.specs.Entries.{Entry}
use Rattle.xn_meaning.specs.Replies.{Line, ListOf, line_of}
use Rattle.xn_meaning.specs.Manifests.{Manifest}
use Rattle.xn_meaning.specs.NameSpace.{Says, Place, NameMap}
use Rattle.xn_meaning.specs.Reading.{IsDirectoryIn, HasMap, HaveName, Lists, ListEnds}
use Rattle.xn_dir.proofs.Members.{in_map}
use Rattle.xn_dir.proofs.Names.{adjacent_map}
use Rattle.xn_meaning.specs.NameSpace.{AreLinesOfMap}
use Rattle.xn_ns.proofs.NamesOfMap.{one_place}

abbrev place_of : Entry → Place
place_of entry = record { ino = entry.ino; kind = entry.kind }

abbrev ComesBefore : Line → Line → Type 0
ComesBefore a b = slice_cmp nat_cmp a.name b.name ≡ Less

-- an entry that is listed is one of the map
mapped : (g : Geometry) (m : Manifest) (image : List ℕ) (names : NameMap) (dir : ℕ) (sorted : List Entry) → HasMap g m image names → IsDirectoryIn g m image dir → Lists g image dir sorted → (entry : Entry) → Contains sorted entry
    → names dir entry.name ≡ Some (place_of entry)
mapped g m image names dir sorted has directory lists entry listed =
    let within = Contains-permutation sorted lists.entries entry (IsPermutation-sym lists.entries sorted lists.listing.same) listed in
    one_place lists.entries entry.name (names dir entry.name) (Some (place_of entry)) lists.names
    (has.says dir directory lists.entries lists.dotdot lists.holds entry.name)
    (entry.position, within)

pub lines_of_the_map : (g : Geometry) (m : Manifest) (image : List ℕ) (names : NameMap) (dir : ℕ) (sorted : List Entry) → HasMap g m image names → IsDirectoryIn g m image dir → Lists g image dir sorted → AreLinesOfMap (names dir) (map line_of sorted)
lines_of_the_map g m image names dir sorted has directory lists = record {
  each = All-map (λ line. names dir line.name ≡ Some (record { ino = line.ino; kind = line.kind })) line_of sorted
      (λ k d below. mapped g m image names dir sorted has directory lists (get_or sorted k d) (Contains-get_or sorted k d below));
  complete = λ name place is.
      let of_map = subst (λ found. HaveName name lists.entries found) is (has.says dir directory lists.entries lists.dotdot lists.holds name) in
      let entry : Entry = record { name = name; ino = place.ino; kind = place.kind; position = of_map.0 } in
      in_map line_of sorted entry (Contains-permutation lists.entries sorted entry lists.listing.same of_map.1);
  rising = adjacent_map line_of ComesBefore sorted lists.listing.rising;
}

pub listed_by_the_map : (g : Geometry) (m : Manifest) (image : List ℕ) (names : NameMap) (dir : ℕ) (lines : List Line) → HasMap g m image names → ListEnds g m dir image (Says (ListOf lines)) → AreLinesOfMap (names dir) lines
listed_by_the_map g m image names dir lines has (inl (is, none)) = absurd cc
listed_by_the_map g m image names dir lines has (inr (inl (rule, is, breaks))) = absurd cc
listed_by_the_map g m image names dir lines has (inr (inr (inl (is, other)))) = absurd cc
listed_by_the_map g m image names dir lines has (inr (inr (inr (attached, inl (rule, block, is, breaks))))) = absurd cc
listed_by_the_map g m image names dir lines has (inr (inr (inr (attached, inr (sorted, is, lists))))) =
    let same : lines ≡ map line_of sorted = cc in
    subst (AreLinesOfMap (names dir)) (sym same) (lines_of_the_map g m image names dir sorted has attached.directory lists)
