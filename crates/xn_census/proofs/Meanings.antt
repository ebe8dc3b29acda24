-- What a census, and what was sorted out of it, say of the image.
use Rattle.std.proofs.Common.{◌≡◌, inl, inr, ℕ, zero, suc, ◌+◌, ◌<◌, List, [], ◌∷◌, length, map, get_or, true, false, Some, None, refl, sym, ap, subst, ◌∙◌, arith}
use Rattle.std.specs.Prelude.{◌↔◌, All, Any, Contains, IsTrue, Option, MatchOption, count_by, cond}
use Rattle.std.proofs.lemmas.List.{get_or-map, length-map, map-append}
use Rattle.std.proofs.lemmas.List.Elements.{All-contains, All-head, All-tail, All-cons, All-nil, All-map, All-weaker}
use Rattle.std.proofs.lemmas.List.Sums.{sum_by-cons}
use Rattle.xn_bytes.specs.declared.kind.Kind.{Kind}
use Rattle.xn_bytes.specs.Numbers.{number_at}
use Rattle.xn_bytes.specs.Kinds.{kind_of_mode}
use Rattle.xn_bytes.specs.Superblock.{Geometry}
use Rattle.xn_bytes.specs.Inode.{inode_of, HasCore, HasBothForks}
use Rattle.xn_bytes.specs.Entries.{Entry}
use Rattle.xn_meaning.specs.Manifests.{Manifest, IsLive}
use Rattle.xn_rules.specs.Namings as namings
use Rattle.xn_rules.specs.Namings.{AreLive, AreNamingsIn, AreNamingsOf, IsRightEntry, IsWhole}
use Rattle.xn_rules.specs.NameRules.{BreaksEntries, HasDot, is_directory}
use Rattle.xn_verdicts.proofs.OneList.{one_list}
use Rattle.xn_dir.specs.declared.listing.Listed.{Listed}
use Rattle.xn_dir.specs.Listings.{entry_of}
use Rattle.xn_facts.specs.declared.facts.Known.{Known}
use Rattle.xn_facts.specs.declared.facts.Node.{Node}
use Rattle.xn_facts.specs.Facts.{IsHeld, IsKnown, IsUnknown, NodeHolds}
use Rattle.xn_names.specs.declared.entry.Naming.{Naming}
use Rattle.xn_names.specs.Names.{naming_of}
use Rattle.xn_reach.specs.declared.step.Step.{Step}
use Rattle.xn_census.specs.declared.census.Held.{Held}
use Rattle.xn_census.specs.declared.census.Census.{Census}
use Rattle.xn_census.specs.declared.sorted_out.SortedOut.{SortedOut}
use Rattle.xn_census.specs.declared.sorted_out.Whole.{Whole}
use Rattle.xn_census.specs.Census.{AreHeldIn, CensusHolds, IsHeldBy}
use Rattle.xn_census.specs.SortedOut.{AreSortedOut, AreTaken, IsOfKind, IsWholeOf, RightBy, SortsOut, named_in}

-- ---- nodes by their numbers

-- where one is among the nodes, its number is among theirs, and the other way round
number_of : (nodes : List Node) (inodes : List ℕ) (k : ℕ) (node : Node) → map (λ (n : Node). n.ino) nodes ≡ inodes → k < length nodes → get_or nodes k node ≡ node → Contains inodes node.ino
number_of nodes inodes k node are low there =
    let long : length (map (λ (n : Node). n.ino) nodes) ≡ length nodes = length-map nodes (λ (n : Node). n.ino) in
    let same : length inodes ≡ length nodes = ap (λ (ns : List ℕ). length ns) (sym are) ∙ long in (
      k,
      omega (arith, same, low),
      ap (λ (ns : List ℕ). get_or ns k node.ino) (sym are) ∙ get_or-map (λ (n : Node). n.ino) nodes k node node.ino low ∙ ap (λ (n : Node). n.ino) there,
    )

node_of_number : (nodes : List Node) (ino : ℕ) → Contains (map (λ (n : Node). n.ino) nodes) ino → Any (λ (n : Node). n.ino ≡ ino) nodes
node_of_number [] ino (k, low, there) = absurd (omega (arith, low))
node_of_number (node ∷ nodes) ino (zero, low, there) = (0, node, omega arith, refl, there)
node_of_number (node ∷ nodes) ino (suc k, low, there) =
    let rest = node_of_number nodes ino (k, omega (arith, low), there) in
    (suc rest.0, rest.1, omega (arith, rest.2), rest.3, rest.4)

-- ---- entries

-- the kind that a node has, where it is known, is what the inode says
kind_is : (g : Geometry) (image : List ℕ) (ino : ℕ) (kind : Kind) (known : Option Known) → MatchOption known (IsUnknown g image ino) (IsKnown g image ino) → IsOfKind kind known
    → HasCore (inode_of g image ino) ino g.meta_uuid → HasBothForks g (inode_of g image ino) ino → kind_of_mode (number_at 2 2 (inode_of g image ino)) ≡ Some kind
kind_is g image ino kind None unknown is core forks = absurd (unknown (core, forks))
kind_is g image ino kind (Some known) holds is core forks = holds.kind ∙ ap Some is

is_of_kind : (g : Geometry) (image : List ℕ) (ino : ℕ) (kind : Kind) (known : Option Known) → MatchOption known (IsUnknown g image ino) (IsKnown g image ino)
    → (HasCore (inode_of g image ino) ino g.meta_uuid → HasBothForks g (inode_of g image ino) ino → kind_of_mode (number_at 2 2 (inode_of g image ino)) ≡ Some kind)
    → IsOfKind kind known
is_of_kind g image ino kind None unknown says = tt
is_of_kind g image ino kind (Some known) holds says =
    let said : kind_of_mode (number_at 2 2 (inode_of g image ino)) ≡ Some kind = says holds.core holds.forks in
    let known_is : kind_of_mode (number_at 2 2 (inode_of g image ino)) ≡ Some known.kind = holds.kind in
    cc

right_from : (g : Geometry) (m : Manifest) (image : List ℕ) (live : List ℕ) (nodes : List Node) (entry : Entry) → AreLive g m live → map (λ (n : Node). n.ino) nodes ≡ live → All (NodeHolds g image) nodes
    → RightBy nodes entry → IsRightEntry g m image entry
right_from g m image live nodes entry are_live numbers hold (k, node, low, there, (number, kind)) =
    let holds : NodeHolds g image node = All-contains (NodeHolds g image) nodes node hold (k, low, there) in
    record {
      live = subst (IsLive g m) number ((are_live.each node.ino).0 (number_of nodes live k node numbers low there));
      kind = kind_is g image entry.ino entry.kind node.known (subst (λ (ino : ℕ). MatchOption node.known (IsUnknown g image ino) (IsKnown g image ino)) number holds.known) kind;
    }

right_to : (g : Geometry) (m : Manifest) (image : List ℕ) (live : List ℕ) (nodes : List Node) (entry : Entry) → AreLive g m live → map (λ (n : Node). n.ino) nodes ≡ live → All (NodeHolds g image) nodes
    → IsRightEntry g m image entry → RightBy nodes entry
right_to g m image live nodes entry are_live numbers hold right =
    let found = node_of_number nodes entry.ino (subst (λ (ns : List ℕ). Contains ns entry.ino) (sym numbers) ((are_live.each entry.ino).1 right.live)) in
    let node = found.1 in
    let holds : NodeHolds g image node = All-contains (NodeHolds g image) nodes node hold (found.0, found.2, found.3) in (
      found.0,
      node,
      found.2,
      found.3,
      (found.4, is_of_kind g image entry.ino entry.kind node.known (subst (λ (ino : ℕ). MatchOption node.known (IsUnknown g image ino) (IsKnown g image ino)) found.4 holds.known) right.kind),
    )

-- by the nodes of all live inodes an entry is right exactly where it is by the image
pub right_is : (g : Geometry) (m : Manifest) (image : List ℕ) (live : List ℕ) (census : Census) (entry : Entry) → AreLive g m live → CensusHolds g image live census → RightBy census.nodes.items entry ↔ IsRightEntry g m image entry
right_is g m image live census entry are_live holds = (
  right_from g m image live census.nodes.items entry are_live holds.inodes_are holds.nodes,
  right_to g m image live census.nodes.items entry are_live holds.inodes_are holds.nodes,
)

-- ---- directories

All-from_map : {X Y : Type 0} (P : Y → Type 0) (f : X → Y) (xs : List X) → All P (map f xs) → All (λ x. P (f x)) xs
All-from_map P f [] all = λ k d low. absurd (omega (arith, low))
All-from_map P f (x ∷ xs) all = All-cons (λ x. P (f x)) x xs (All-head P (f x) (map f xs) all) (All-from_map P f xs (All-tail P (f x) (map f xs) all))

count_mapped : (items : List Listed) → count_by (λ (entry : Entry). is_directory entry.kind) (map entry_of items) ≡ count_by (λ (l : Listed). is_directory l.kind) items
count_mapped [] = refl
count_mapped (l ∷ items) =
    let of_entry = λ (entry : Entry). cond (is_directory entry.kind) 1 0 in
    let of_listed = λ (one : Listed). cond (is_directory one.kind) 1 0 in
    sum_by-cons of_entry (entry_of l) (map entry_of items) ∙ ap (λ (n : ℕ). of_listed l + n) (count_mapped items) ∙ sym (sum_by-cons of_listed l items)

none_mapped : (items : List Listed) → map entry_of items ≡ [] → items ≡ []
none_mapped [] none = refl
none_mapped (l ∷ items) none = absurd (cc)

-- What is said of one directory that holds entries, with these; they may be right or not.
pub record IsToldOf (g : Geometry) (m : Manifest) (image : List ℕ) (whole : Whole) : Type 0 where
  pub entries : List Entry
  pub held : IsHeld g image whole.dir entries whole.dotdot
  pub dot : IsTrue whole.has_dot ↔ HasDot g image whole.dir
  pub right : IsTrue whole.is_right ↔ All (IsRightEntry g m image) entries
  pub subdirectories : whole.subdirectories ≡ count_by (λ entry. is_directory entry.kind) entries
  pub empty : IsTrue whole.is_empty ↔ (entries ≡ [])

all_right : (g : Geometry) (m : Manifest) (image : List ℕ) (nodes : List Node) (items : List Listed) → ((entry : Entry) → RightBy nodes entry ↔ IsRightEntry g m image entry)
    → All (λ (l : Listed). RightBy nodes (entry_of l)) items ↔ All (IsRightEntry g m image) (map entry_of items)
all_right g m image nodes items same = (
  λ all. All-map (IsRightEntry g m image) entry_of items (All-weaker (λ (l : Listed). RightBy nodes (entry_of l)) (λ (l : Listed). IsRightEntry g m image (entry_of l)) (λ l right. (same (entry_of l)).0 right) items all),
  λ all. All-weaker (λ (l : Listed). IsRightEntry g m image (entry_of l)) (λ (l : Listed). RightBy nodes (entry_of l)) (λ l right. (same (entry_of l)).1 right) items (All-from_map (IsRightEntry g m image) entry_of items all),
)

pub told_of : (g : Geometry) (m : Manifest) (image : List ℕ) (nodes : List Node) (held : Held) (whole : Whole) → ((entry : Entry) → RightBy nodes entry ↔ IsRightEntry g m image entry)
    → IsHeldBy g image held → IsWholeOf nodes held whole → IsToldOf g m image whole
told_of g m image nodes held whole same by is =
    let items = held.contents.entries.items in
    let both = all_right g m image nodes items same in
    record {
      entries = map entry_of items;
      held = rw (is.dir, is.dotdot) by.contents.held;
      dot = rw (is.dir, is.has_dot) by.contents.dot;
      right = (λ yes. both.0 (is.right.0 yes), λ all. is.right.1 (both.1 all));
      subdirectories = is.subdirectories ∙ sym (count_mapped items);
      empty = (λ yes. ap (map entry_of) (is.empty.0 yes), λ none. is.empty.1 (none_mapped items none));
    }

-- ---- of one directory that is told of

pub is_whole : (g : Geometry) (m : Manifest) (image : List ℕ) (whole : Whole) (told : IsToldOf g m image whole) → whole.is_right ≡ true → IsWhole g m image whole.dir told.entries whole.dotdot
is_whole g m image whole told all_right = record {
  directory = told.held.directory;
  inode = told.held.inode;
  holds = told.held.holds;
  names = told.held.names;
  right = told.right.0 all_right;
}

pub breaks_entries : (g : Geometry) (m : Manifest) (image : List ℕ) (whole : Whole) → IsToldOf g m image whole → whole.is_right ≡ false → BreaksEntries g m image whole.dir
breaks_entries g m image whole told not_right = record {
  directory = told.held.directory;
  inode = told.held.inode;
  entries = told.entries;
  dotdot = whole.dotdot;
  holds = told.held.holds;
  names = told.held.names;
  wrong = λ all. let yes = told.right.1 all in absurd (cc);
}

-- a directory has one list and one dotdot
pub one_whole : (g : Geometry) (m : Manifest) (image : List ℕ) (whole : Whole) (told : IsToldOf g m image whole) (entries : List Entry) (dotdot : ℕ) → IsWhole g m image whole.dir entries dotdot → (told.entries ≡ entries) × (whole.dotdot ≡ dotdot)
one_whole g m image whole told entries dotdot is = one_list g image whole.dir told.entries entries whole.dotdot dotdot told.held.holds is.holds

pub not_whole : (g : Geometry) (m : Manifest) (image : List ℕ) (whole : Whole) → IsToldOf g m image whole → whole.is_right ≡ false → (entries : List Entry) (dotdot : ℕ) → ¬ IsWhole g m image whole.dir entries dotdot
not_whole g m image whole told not_right entries dotdot is =
    let same = one_whole g m image whole told entries dotdot is in
    let yes = told.right.1 (subst (λ (es : List Entry). All (IsRightEntry g m image) es) (sym same.0) is.right) in
    absurd (cc)

-- a whole directory holds its entries
pub whole_is_held : (g : Geometry) (m : Manifest) (image : List ℕ) (dir : ℕ) (entries : List Entry) (dotdot : ℕ) → IsWhole g m image dir entries dotdot → IsHeld g image dir entries dotdot
whole_is_held g m image dir entries dotdot is = record { directory = is.directory; inode = is.inode; holds = is.holds; names = is.names }

-- ---- all of them

-- what is told of each
told_each : (g : Geometry) (m : Manifest) (image : List ℕ) (nodes : List Node) → ((entry : Entry) → RightBy nodes entry ↔ IsRightEntry g m image entry)
    → (inodes : List ℕ) (helds : List Held) (wholes : List Whole) (own : List Naming) (steps : List Step) → AreHeldIn g image inodes helds → AreSortedOut nodes helds wholes own steps → All (IsToldOf g m image) wholes
told_each g m image nodes same [] helds wholes own steps are sorted =
    let none : AreSortedOut nodes [] wholes own steps = subst (λ (hs : List Held). AreSortedOut nodes hs wholes own steps) are sorted in
    subst (λ (ws : List Whole). All (IsToldOf g m image) ws) (sym none.0) (All-nil (IsToldOf g m image))
told_each g m image nodes same (ino ∷ inodes) helds wholes own steps (inr (none, are)) sorted = told_each g m image nodes same inodes helds wholes own steps are sorted
told_each g m image nodes same (ino ∷ inodes) helds wholes own steps (inl (one, rest, both, dir, by, are)) sorted =
    let more : AreSortedOut nodes (one ∷ rest) wholes own steps = subst (λ (hs : List Held). AreSortedOut nodes hs wholes own steps) both sorted in
    let others = told_each g m image nodes same inodes rest more.1 more.3 more.5 are more.8 in
    subst (λ (ws : List Whole). All (IsToldOf g m image) ws) (sym more.9) (All-cons (IsToldOf g m image) more.0 more.1 (told_of g m image nodes one more.0 same by more.6) others)

pub whole_is : (g : Geometry) (m : Manifest) (image : List ℕ) (live : List ℕ) (census : Census) (out : SortedOut) → AreLive g m live → CensusHolds g image live census → SortsOut census.nodes.items census.held.items out → All (IsToldOf g m image) out.wholes.items
whole_is g m image live census out are_live holds sorts =
    told_each g m image census.nodes.items (λ entry. right_is g m image live census entry are_live holds) live census.held.items out.wholes.items out.namings.items out.steps.items holds.held sorts

-- a live inode that is none of them holds no entries
none_held : (g : Geometry) (image : List ℕ) (nodes : List Node) (inodes : List ℕ) (helds : List Held) (wholes : List Whole) (own : List Naming) (steps : List Step)
    → AreHeldIn g image inodes helds → AreSortedOut nodes helds wholes own steps → (dir : ℕ) → Contains inodes dir → ¬ Any (λ (whole : Whole). whole.dir ≡ dir) wholes
    → (entries : List Entry) (dotdot : ℕ) → ¬ IsHeld g image dir entries dotdot
none_held g image nodes [] helds wholes own steps are sorted dir (k, low, there) absent entries dotdot is = omega (arith, low)
none_held g image nodes (ino ∷ inodes) helds wholes own steps (inr (none, are)) sorted dir (zero, low, there) absent entries dotdot is =
    none entries dotdot (subst (λ (n : ℕ). IsHeld g image n entries dotdot) (sym there) is)
none_held g image nodes (ino ∷ inodes) helds wholes own steps (inr (none, are)) sorted dir (suc k, low, there) absent entries dotdot is =
    none_held g image nodes inodes helds wholes own steps are sorted dir (k, omega (arith, low), there) absent entries dotdot is
none_held g image nodes (ino ∷ inodes) helds wholes own steps (inl (one, rest, both, of_ino, by, are)) sorted dir (zero, low, there) absent entries dotdot is =
    let more : AreSortedOut nodes (one ∷ rest) wholes own steps = subst (λ (hs : List Held). AreSortedOut nodes hs wholes own steps) both sorted in
    let here : Any (λ (whole : Whole). whole.dir ≡ dir) (more.0 ∷ more.1) = (0, more.0, omega arith, refl, more.6.dir ∙ of_ino ∙ there) in
    absent (subst (λ (ws : List Whole). Any (λ (whole : Whole). whole.dir ≡ dir) ws) (sym more.9) here)
none_held g image nodes (ino ∷ inodes) helds wholes own steps (inl (one, rest, both, of_ino, by, are)) sorted dir (suc k, low, there) absent entries dotdot is =
    let more : AreSortedOut nodes (one ∷ rest) wholes own steps = subst (λ (hs : List Held). AreSortedOut nodes hs wholes own steps) both sorted in
    none_held g image nodes inodes rest more.1 more.3 more.5 are more.8 dir (k, omega (arith, low), there)
    (λ found. absent (subst (λ (ws : List Whole). Any (λ (whole : Whole). whole.dir ≡ dir) ws) (sym more.9) (suc found.0, found.1, omega (arith, found.2), found.3, found.4))) entries dotdot is

pub no_entries : (g : Geometry) (m : Manifest) (image : List ℕ) (live : List ℕ) (census : Census) (out : SortedOut) (dir : ℕ) → AreLive g m live → CensusHolds g image live census → SortsOut census.nodes.items census.held.items out
    → IsLive g m dir → ¬ Any (λ (whole : Whole). whole.dir ≡ dir) out.wholes.items → (entries : List Entry) (dotdot : ℕ) → ¬ IsHeld g image dir entries dotdot
no_entries g m image live census out dir are_live holds sorts is absent =
    none_held g image census.nodes.items live census.held.items out.wholes.items out.namings.items out.steps.items holds.held sorts dir ((are_live.each dir).1 is) absent

-- ---- the entries of whole directories

named_alike : (held : Held) (dir : ℕ) (items : List Listed) → held.dir ≡ dir → map naming_of (map (named_in held) items) ≡ map (namings.naming_of dir) (map entry_of items)
named_alike held dir [] is = refl
named_alike held dir (l ∷ items) is =
    let first : namings.Naming = namings.naming_of dir (entry_of l) in
    let same : naming_of (named_in held l) ≡ first = ap (λ (n : ℕ). namings.naming_of n (entry_of l)) is in
    ap (λ (n : namings.Naming). n ∷ map naming_of (map (named_in held) items)) same ∙ ap (λ (ns : List namings.Naming). first ∷ ns) (named_alike held dir items is)

-- those of one directory that holds entries
namings_of : (g : Geometry) (m : Manifest) (image : List ℕ) (nodes : List Node) (ino : ℕ) (held : Held) (whole : Whole) (own : List Naming) (steps : List Step)
    → ((entry : Entry) → RightBy nodes entry ↔ IsRightEntry g m image entry) → held.dir ≡ ino
    → IsHeldBy g image held → IsWholeOf nodes held whole → AreTaken held whole own steps → AreNamingsOf g m image ino (map naming_of own)
unfolding told_of
namings_of g m image nodes ino held whole own steps same is by of_held (inl (right, taken, stepped)) =
    let told = told_of g m image nodes held whole same by of_held in
    let whole_here : IsWhole g m image whole.dir told.entries whole.dotdot = is_whole g m image whole told right in
    inl (told.entries, whole.dotdot, subst (λ (n : ℕ). IsWhole g m image n told.entries whole.dotdot) (of_held.dir ∙ is) whole_here, ap (map naming_of) taken ∙ named_alike held ino held.contents.entries.items is)
namings_of g m image nodes ino held whole own steps same is by of_held (inr (not_right, taken, stepped)) =
    let told = told_of g m image nodes held whole same by of_held in
    inr (
      λ entries dotdot here. not_whole g m image whole told not_right entries dotdot (subst (λ (n : ℕ). IsWhole g m image n entries dotdot) (sym (of_held.dir ∙ is)) here),
      ap (map naming_of) taken,
    )

namings_in : (g : Geometry) (m : Manifest) (image : List ℕ) (nodes : List Node) → ((entry : Entry) → RightBy nodes entry ↔ IsRightEntry g m image entry)
    → (inodes : List ℕ) (helds : List Held) (wholes : List Whole) (own : List Naming) (steps : List Step) → AreHeldIn g image inodes helds → AreSortedOut nodes helds wholes own steps → AreNamingsIn g m image inodes (map naming_of own)
namings_in g m image nodes same [] helds wholes own steps are sorted =
    let none : AreSortedOut nodes [] wholes own steps = subst (λ (hs : List Held). AreSortedOut nodes hs wholes own steps) are sorted in
    ap (map naming_of) none.1
namings_in g m image nodes same (ino ∷ inodes) helds wholes own steps (inr (none, are)) sorted = (
  [],
  map naming_of own,
  inr (λ entries dotdot is. none entries dotdot (whole_is_held g m image ino entries dotdot is), refl),
  namings_in g m image nodes same inodes helds wholes own steps are sorted,
  refl,
)
namings_in g m image nodes same (ino ∷ inodes) helds wholes own steps (inl (one, rest, both, dir, by, are)) sorted =
    let more : AreSortedOut nodes (one ∷ rest) wholes own steps = subst (λ (hs : List Held). AreSortedOut nodes hs wholes own steps) both sorted in (
      map naming_of more.2,
      map naming_of more.3,
      namings_of g m image nodes ino one more.0 more.2 more.4 same dir by more.6 more.7,
      namings_in g m image nodes same inodes rest more.1 more.3 more.5 are more.8,
      ap (map naming_of) more.10 ∙ map-append naming_of more.2 more.3,
    )

pub are_namings : (g : Geometry) (m : Manifest) (image : List ℕ) (live : List ℕ) (census : Census) (out : SortedOut) → AreLive g m live → CensusHolds g image live census → SortsOut census.nodes.items census.held.items out
    → AreNamingsIn g m image live (map naming_of out.namings.items)
are_namings g m image live census out are_live holds sorts =
    namings_in g m image census.nodes.items (λ entry. right_is g m image live census entry are_live holds) live census.held.items out.wholes.items out.namings.items out.steps.items holds.held sorts
