-- From a census, and what was sorted out of it, to what the rules look at.
use Rattle.std.proofs.Common.{◌≡◌, ℕ, ◌<◌, true, List, [], ◌∷◌, inl, inr, length, map, subst, sym}
use Rattle.std.specs.Prelude.{All}
use Rattle.std.specs.List.{AllAdjacentBelow}
use Rattle.xn_bytes.specs.Superblock.{Geometry}
use Rattle.xn_meaning.specs.Manifests.{Manifest, IsLive}
use Rattle.std.proofs.lemmas.List.Elements.{All-append, All-cons, All-head, All-nil, All-tail}
use Rattle.xn_bytes.specs.Entries.{Entry}
use Rattle.xn_rules.specs.Namings.{AreLive, AreNamingsIn, AreNamingsOf, IsRightEntry, IsWhole, Naming as Means, naming_of as means_of}
use Rattle.xn_census.specs.declared.census.Held.{Held}
use Rattle.xn_census.specs.declared.census.Census.{Census}
use Rattle.xn_census.specs.declared.sorted_out.Whole.{Whole}
use Rattle.xn_census.specs.declared.sorted_out.SortedOut.{SortedOut}
use Rattle.xn_census.specs.Census.{AreAmong, CensusHolds}
use Rattle.xn_census.specs.SortedOut.{SortsOut}
use Rattle.xn_facts.specs.declared.facts.Node.{Node}
use Rattle.xn_census.proofs.Meanings.{IsToldOf, are_namings, is_whole, breaks_entries, not_whole, whole_is}
use Rattle.xn_census.proofs.Standing.{generations_are, others_are, stands_among, wholes_live}
use Rattle.xn_census.proofs.Rises.{among_rise, wholes_rise, steps_rise, steps_are}
use Rattle.xn_check.specs.Known.{IsRightWhole, StandsWhole, WholeHolds}
use Rattle.xn_check.specs.Judged.{IsSortedOut, OutHolds, meant_by}

-- the entries of a whole directory stand in it
entries_stand : (g : Geometry) (m : Manifest) (image : List ℕ) (dir : ℕ) (all : List Entry) (dotdot : ℕ) → IsWhole g m image dir all dotdot → (entries : List Entry) → All (IsRightEntry g m image) entries → All (StandsWhole g m image) (map (means_of dir) entries)
entries_stand g m image dir all dotdot whole [] right = All-nil (StandsWhole g m image)
entries_stand g m image dir all dotdot whole (entry ∷ entries) right =
    let first : IsRightEntry g m image entry = All-head (IsRightEntry g m image) entry entries right in
    All-cons (StandsWhole g m image) (means_of dir entry) (map (means_of dir) entries) (record { entries = all; dotdot = dotdot; whole = whole; kind = first.kind })
    (entries_stand g m image dir all dotdot whole entries (All-tail (IsRightEntry g m image) entry entries right))

own_standing : (g : Geometry) (m : Manifest) (image : List ℕ) (dir : ℕ) (own : List Means) → AreNamingsOf g m image dir own → All (StandsWhole g m image) own
own_standing g m image dir own (inl (entries, dotdot, whole, are)) =
    subst (λ (ns : List Means). All (StandsWhole g m image) ns) (sym are) (entries_stand g m image dir entries dotdot whole entries whole.right)
own_standing g m image dir own (inr (none, are)) = subst (λ (ns : List Means). All (StandsWhole g m image) ns) (sym are) (All-nil (StandsWhole g m image))

all_standing : (g : Geometry) (m : Manifest) (image : List ℕ) (inodes : List ℕ) (namings : List Means) → AreNamingsIn g m image inodes namings → All (StandsWhole g m image) namings
all_standing g m image [] namings are = subst (λ (ns : List Means). All (StandsWhole g m image) ns) (sym are) (All-nil (StandsWhole g m image))
all_standing g m image (ino ∷ inodes) namings (own, rest, of_ino, of_rest, both) =
    subst (λ (ns : List Means). All (StandsWhole g m image) ns) (sym both)
    (All-append (StandsWhole g m image) own rest (own_standing g m image ino own of_ino) (all_standing g m image inodes rest of_rest))

module _ (g : Geometry) (m : Manifest) (image : List ℕ) (live : List ℕ) (census : Census) (out : SortedOut) (are_live : AreLive g m live) (holds : CensusHolds g image live census)
    (sorts : SortsOut census.nodes.items census.held.items out) where
  right_whole : (whole : Whole) → IsLive g m whole.dir → IsToldOf g m image whole → whole.is_right ≡ true → IsRightWhole g m image (meant_by out) whole
  right_whole whole is_live told right =
      let among = stands_among g m image live census out whole are_live holds sorts is_live told right in
      record {
        entries = told.entries;
        holds = is_whole g m image whole told right;
        dot = told.dot;
        subdirectories = among.subdirectories;
        empty = among.empty;
      }

  whole_holds : (whole : Whole) → IsLive g m whole.dir → IsToldOf g m image whole → WholeHolds g m image (meant_by out) whole
  whole_holds whole is_live told = record {
    right = right_whole whole is_live told;
    wrong = λ wrong. (breaks_entries g m image whole told wrong, not_whole g m image whole told wrong);
  }

  pub out_holds : OutHolds g m image out
  out_holds = record {
    wholes = λ k d lt. whole_holds _ (wholes_live g m image live census out are_live holds sorts k d lt) (whole_is g m image live census out are_live holds sorts k d lt);
    others = λ dir is_live differ. others_are g m image live census out dir are_live holds sorts is_live differ;
    generations = generations_are g image live census out holds sorts;
    standing = all_standing g m image live (meant_by out) (are_namings g m image live census out are_live holds sorts);
  }

-- whatever is told of the image
pub is_sorted_out : (inodes : List ℕ) (nodes : List Node) (helds : List Held) (out : SortedOut) → AllAdjacentBelow (λ a b. a < b) inodes (length inodes) → AreAmong inodes helds → SortsOut nodes helds out → IsSortedOut out
is_sorted_out inodes nodes helds out rising among sorts =
    let risen = among_rise inodes helds rising among in
    record {
      wholes = wholes_rise nodes helds out risen sorts;
      steps = steps_are nodes helds out sorts;
      rising = steps_rise nodes helds out risen sorts;
    }
