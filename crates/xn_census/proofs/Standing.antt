-- The entries that stand in one directory among those of all, and the generations of directories.
use Rattle.std.proofs.Common.{◌≡◌, inl, inr, ℕ, zero, suc, ◌+◌, ◌<◌, List, [], ◌∷◌, ◌++◌, length, map, true, false, refl, sym, ap, subst, ◌∙◌, arith, eq-eqb}
use Rattle.std.specs.Prelude.{◌≢◌, ◌↔◌, ◌==◌, All, Bool, Contains, IsTrue, cond, count_by, filter}
use Rattle.std.specs.List.{AllAdjacentBelow}
use Rattle.std.proofs.lemmas.List.{append-nil}
use Rattle.std.proofs.lemmas.List.Elements.{All-append, All-contains, All-cons, All-head, All-nil, All-tail, All-weaker, filter-append}
use Rattle.std.proofs.lemmas.List.Sums.{sum_by-cons}
use Rattle.std.proofs.lemmas.Bool.Decides.{nat_tests}
use Rattle.xn_bytes.specs.Numbers.{number_at}
use Rattle.xn_bytes.specs.Superblock.{Geometry}
use Rattle.xn_bytes.specs.Inode.{inode_of}
use Rattle.xn_bytes.specs.Entries.{Entry}
use Rattle.xn_meaning.specs.Manifests.{Manifest, IsLive}
use Rattle.xn_rules.specs.Namings.{AreLive, AreNamingsIn, AreNamingsOf, IsWhole, Naming as Means, naming_of as means_of, standing_in}
use Rattle.xn_rules.specs.NameRules.{is_directory, says_directory}
use Rattle.xn_verdicts.proofs.OneList.{one_list}
use Rattle.xn_dir.specs.declared.listing.Listed.{Listed}
use Rattle.xn_facts.specs.Facts.{IsHeld}
use Rattle.xn_facts.specs.declared.facts.Node.{Node}
use Rattle.xn_names.specs.declared.entry.Naming.{Naming}
use Rattle.xn_names.specs.Names.{naming_of}
use Rattle.xn_reach.specs.declared.step.Step.{Step}
use Rattle.xn_census.specs.declared.census.Held.{Held}
use Rattle.xn_census.specs.declared.census.Census.{Census}
use Rattle.xn_census.specs.declared.sorted_out.SortedOut.{SortedOut}
use Rattle.xn_census.specs.declared.sorted_out.Whole.{Whole}
use Rattle.xn_census.specs.Census.{AreHeldIn, CensusHolds, IsHeldBy}
use Rattle.xn_census.specs.SortedOut.{AreSortedOut, AreTaken, SortsOut, named_in}
use Rattle.xn_census.proofs.Rises.{above_first, itself, rises_behind}
use Rattle.xn_census.proofs.Meanings.{IsToldOf, are_namings, is_whole, no_entries}

-- ---- filters that keep all or nothing

keeps_all : {X : Type 0} (test : X → Bool) (xs : List X) → All (λ x. test x ≡ true) xs → filter test xs ≡ xs
keeps_all test [] all = refl
keeps_all test (x ∷ xs) all =
    ap (λ (b : Bool). cond b (x ∷ filter test xs) (filter test xs)) (All-head (λ y. test y ≡ true) x xs all) ∙ ap (λ ys. x ∷ ys) (keeps_all test xs (All-tail (λ y. test y ≡ true) x xs all))

keeps_none : {X : Type 0} (test : X → Bool) (xs : List X) → All (λ x. test x ≡ false) xs → filter test xs ≡ []
keeps_none test [] all = refl
keeps_none test (x ∷ xs) all =
    ap (λ (b : Bool). cond b (x ∷ filter test xs) (filter test xs)) (All-head (λ y. test y ≡ false) x xs all) ∙ keeps_none test xs (All-tail (λ y. test y ≡ false) x xs all)

-- ---- the directory of an entry

all_there : (dir : ℕ) (entries : List Entry) → All (λ (n : Means). n.dir ≡ dir) (map (means_of dir) entries)
all_there dir [] = All-nil (λ (n : Means). n.dir ≡ dir)
all_there dir (entry ∷ entries) = All-cons (λ (n : Means). n.dir ≡ dir) (means_of dir entry) (map (means_of dir) entries) refl (all_there dir entries)

own_there : (g : Geometry) (m : Manifest) (image : List ℕ) (dir : ℕ) (own : List Means) → AreNamingsOf g m image dir own → All (λ (n : Means). n.dir ≡ dir) own
own_there g m image dir own (inl (entries, dotdot, whole, are)) = subst (λ (ns : List Means). All (λ (n : Means). n.dir ≡ dir) ns) (sym are) (all_there dir entries)
own_there g m image dir own (inr (none, are)) = subst (λ (ns : List Means). All (λ (n : Means). n.dir ≡ dir) ns) (sym are) (All-nil (λ (n : Means). n.dir ≡ dir))

there_above : (g : Geometry) (m : Manifest) (image : List ℕ) (least : ℕ) (inodes : List ℕ) (namings : List Means) → All (λ (n : ℕ). least < n) inodes → AreNamingsIn g m image inodes namings → All (λ (n : Means). least < n.dir) namings
there_above g m image least [] namings above are = subst (λ (ns : List Means). All (λ (n : Means). least < n.dir) ns) (sym are) (All-nil (λ (n : Means). least < n.dir))
there_above g m image least (ino ∷ inodes) namings above (own, rest, of_ino, of_rest, both) =
    let first : least < ino = All-head (λ (n : ℕ). least < n) ino inodes above in
    let here = All-weaker (λ (n : Means). n.dir ≡ ino) (λ (n : Means). least < n.dir) (λ n is. omega (arith, first, is)) own (own_there g m image ino own of_ino) in
    let behind = there_above g m image least inodes rest (All-tail (λ (n : ℕ). least < n) ino inodes above) of_rest in
    subst (λ (ns : List Means). All (λ (n : Means). least < n.dir) ns) (sym both) (All-append (λ (n : Means). least < n.dir) own rest here behind)

-- ---- those of a whole directory

stand_there : (dir : ℕ) (namings : List Means) → All (λ (n : Means). n.dir ≡ dir) namings → standing_in dir namings ≡ namings
stand_there dir namings all = keeps_all (λ (n : Means). n.dir == dir) namings (All-weaker (λ (n : Means). n.dir ≡ dir) (λ (n : Means). (n.dir == dir) ≡ true) (λ n is. eq-eqb n.dir dir is) namings all)

other : (a b : ℕ) → (a ≡ b → ⊥) → (a == b) ≡ false
other a b differ = grind (arith, nat_tests)

stand_elsewhere : (dir : ℕ) (namings : List Means) → All (λ (n : Means). n.dir ≡ dir → ⊥) namings → standing_in dir namings ≡ []
stand_elsewhere dir namings all = keeps_none (λ (n : Means). n.dir == dir) namings (All-weaker (λ (n : Means). n.dir ≡ dir → ⊥) (λ (n : Means). (n.dir == dir) ≡ false) (λ n differ. other n.dir dir differ) namings all)

own_of_whole : (g : Geometry) (m : Manifest) (image : List ℕ) (dir : ℕ) (own : List Means) (entries : List Entry) (dotdot : ℕ) → AreNamingsOf g m image dir own → IsWhole g m image dir entries dotdot → own ≡ map (means_of dir) entries
own_of_whole g m image dir own entries dotdot (inl (others, parent, is, are)) whole =
    are ∙ ap (λ (es : List Entry). map (means_of dir) es) (one_list g image dir others entries parent dotdot is.holds whole.holds).0
own_of_whole g m image dir own entries dotdot (inr (none, are)) whole = absurd (none entries dotdot whole)

pub standing_of_whole : (g : Geometry) (m : Manifest) (image : List ℕ) (inodes : List ℕ) (namings : List Means) (dir : ℕ) (entries : List Entry) (dotdot : ℕ)
    → AllAdjacentBelow (λ (a b : ℕ). a < b) inodes (length inodes) → AreNamingsIn g m image inodes namings → Contains inodes dir → IsWhole g m image dir entries dotdot → standing_in dir namings ≡ map (means_of dir) entries
standing_of_whole g m image [] namings dir entries dotdot rise are (k, low, there) whole = let none : k < 0 = low in absurd (omega arith)
standing_of_whole g m image (ino ∷ inodes) namings dir entries dotdot rise (own, rest, of_ino, of_rest, both) (zero, low, there) whole =
    let is : ino ≡ dir = there in
    let above : All (λ (n : ℕ). ino < n) inodes = above_first itself ino inodes rise in
    let elsewhere : All (λ (n : Means). n.dir ≡ dir → ⊥) rest =
    All-weaker (λ (n : Means). ino < n.dir) (λ (n : Means). n.dir ≡ dir → ⊥) (λ n high same. omega (arith, high, same, is)) rest (there_above g m image ino inodes rest above of_rest) in
    let here : AreNamingsOf g m image dir own = subst (λ (n : ℕ). AreNamingsOf g m image n own) is of_ino in
    ap (standing_in dir) both
    ∙ filter-append (λ (n : Means). n.dir == dir) own rest
    ∙ ap (λ (ns : List Means). ns ++ standing_in dir rest) (stand_there dir own (own_there g m image dir own here))
    ∙ ap (λ (ns : List Means). own ++ ns) (stand_elsewhere dir rest elsewhere)
    ∙ append-nil own
    ∙ own_of_whole g m image dir own entries dotdot here whole
standing_of_whole g m image (ino ∷ inodes) namings dir entries dotdot rise (own, rest, of_ino, of_rest, both) (suc k, low, there) whole =
    let within : k < length inodes = omega (arith, low) in
    let above : All (λ (n : ℕ). ino < n) inodes = above_first itself ino inodes rise in
    let high : ino < dir = All-contains (λ (n : ℕ). ino < n) inodes dir above (k, within, there) in
    let elsewhere : All (λ (n : Means). n.dir ≡ dir → ⊥) own = All-weaker (λ (n : Means). n.dir ≡ ino) (λ (n : Means). n.dir ≡ dir → ⊥) (λ n is same. omega (arith, high, is, same)) own (own_there g m image ino own of_ino) in
    ap (standing_in dir) both
    ∙ filter-append (λ (n : Means). n.dir == dir) own rest
    ∙ ap (λ (ns : List Means). ns ++ standing_in dir rest) (stand_elsewhere dir own elsewhere)
    ∙ standing_of_whole g m image inodes rest dir entries dotdot (rises_behind itself ino inodes rise) of_rest (k, within, there) whole

-- ---- what is told of a directory, by the entries of all

count_meant : (dir : ℕ) (entries : List Entry) → count_by says_directory (map (means_of dir) entries) ≡ count_by (λ (entry : Entry). is_directory entry.kind) entries
count_meant dir [] = refl
count_meant dir (entry ∷ entries) =
    let of_meant = λ (n : Means). cond (says_directory n) 1 0 in
    let of_entry = λ (one : Entry). cond (is_directory one.kind) 1 0 in
    sum_by-cons of_meant (means_of dir entry) (map (means_of dir) entries) ∙ ap (λ (n : ℕ). of_entry entry + n) (count_meant dir entries) ∙ sym (sum_by-cons of_entry entry entries)

none_meant : (dir : ℕ) (entries : List Entry) → map (means_of dir) entries ≡ [] → entries ≡ []
none_meant dir [] none = refl
none_meant dir (entry ∷ entries) none = absurd (cc)

-- so many entries of a right directory say that they are directories, and it is empty where none stands in it
pub record StandsAmong (namings : List Means) (whole : Whole) : Type 0 where
  pub subdirectories : whole.subdirectories ≡ count_by says_directory (standing_in whole.dir namings)
  pub empty : IsTrue whole.is_empty ↔ (standing_in whole.dir namings ≡ [])

pub stands_among : (g : Geometry) (m : Manifest) (image : List ℕ) (live : List ℕ) (census : Census) (out : SortedOut) (whole : Whole) → AreLive g m live → CensusHolds g image live census → SortsOut census.nodes.items census.held.items out
    → IsLive g m whole.dir → IsToldOf g m image whole → whole.is_right ≡ true → StandsAmong (map naming_of out.namings.items) whole
stands_among g m image live census out whole are_live holds sorts is_live told right =
    let namings : List Means = map naming_of out.namings.items in
    let standing : standing_in whole.dir namings ≡ map (means_of whole.dir) told.entries =
    standing_of_whole g m image live namings whole.dir told.entries whole.dotdot are_live.rising (are_namings g m image live census out are_live holds sorts) ((are_live.each whole.dir).1 is_live) (is_whole g m image whole told right) in
    record {
      subdirectories = told.subdirectories ∙ sym (count_meant whole.dir told.entries) ∙ ap (count_by says_directory) (sym standing);
      empty = (
        λ yes. standing ∙ ap (map (means_of whole.dir)) (told.empty.0 yes),
        λ none. told.empty.1 (none_meant whole.dir told.entries (sym standing ∙ none)),
      );
    }

-- ---- the generations of directories

abbrev HasGeneration : Geometry → List ℕ → Naming → Type 0
HasGeneration g image n = n.generation ≡ number_at 4 92 (inode_of g image n.dir)

generations_of : (g : Geometry) (image : List ℕ) (held : Held) (items : List Listed) → IsHeldBy g image held → All (HasGeneration g image) (map (named_in held) items)
generations_of g image held [] by = All-nil (HasGeneration g image)
generations_of g image held (l ∷ items) by = All-cons (HasGeneration g image) (named_in held l) (map (named_in held) items) (sym by.generation) (generations_of g image held items by)

generations_taken : (g : Geometry) (image : List ℕ) (held : Held) (whole : Whole) (own : List Naming) (steps : List Step) → IsHeldBy g image held → AreTaken held whole own steps → All (HasGeneration g image) own
generations_taken g image held whole own steps by (inl (right, are, stepped)) = subst (λ (ns : List Naming). All (HasGeneration g image) ns) (sym are) (generations_of g image held held.contents.entries.items by)
generations_taken g image held whole own steps by (inr (wrong, are, stepped)) = subst (λ (ns : List Naming). All (HasGeneration g image) ns) (sym are) (All-nil (HasGeneration g image))

generations_in : (g : Geometry) (image : List ℕ) (nodes : List Node) (inodes : List ℕ) (helds : List Held) (wholes : List Whole) (namings : List Naming) (steps : List Step) → AreHeldIn g image inodes helds
    → AreSortedOut nodes helds wholes namings steps → All (HasGeneration g image) namings
generations_in g image nodes [] helds wholes namings steps are sorted =
    let none : AreSortedOut nodes [] wholes namings steps = subst (λ (hs : List Held). AreSortedOut nodes hs wholes namings steps) are sorted in
    subst (λ (ns : List Naming). All (HasGeneration g image) ns) (sym none.1) (All-nil (HasGeneration g image))
generations_in g image nodes (ino ∷ inodes) helds wholes namings steps (inr (none, are)) sorted = generations_in g image nodes inodes helds wholes namings steps are sorted
generations_in g image nodes (ino ∷ inodes) helds wholes namings steps (inl (one, rest, both, dir, by, are)) sorted =
    let more : AreSortedOut nodes (one ∷ rest) wholes namings steps = subst (λ (hs : List Held). AreSortedOut nodes hs wholes namings steps) both sorted in
    let here = generations_taken g image one more.0 more.2 more.4 by more.7 in
    let behind = generations_in g image nodes inodes rest more.1 more.3 more.5 are more.8 in
    subst (λ (ns : List Naming). All (HasGeneration g image) ns) (sym more.10) (All-append (HasGeneration g image) more.2 more.3 here behind)

pub generations_are : (g : Geometry) (image : List ℕ) (live : List ℕ) (census : Census) (out : SortedOut) → CensusHolds g image live census → SortsOut census.nodes.items census.held.items out
    → All (λ (n : Naming). n.generation ≡ number_at 4 92 (inode_of g image n.dir)) out.namings.items
generations_are g image live census out holds sorts = generations_in g image census.nodes.items live census.held.items out.wholes.items out.namings.items out.steps.items holds.held sorts

-- ---- all directories

behind_first : (ino : ℕ) (inodes : List ℕ) (wholes : List Whole) → All (λ (whole : Whole). Contains inodes whole.dir) wholes → All (λ (whole : Whole). Contains (ino ∷ inodes) whole.dir) wholes
behind_first ino inodes wholes all =
    All-weaker (λ (whole : Whole). Contains inodes whole.dir) (λ (whole : Whole). Contains (ino ∷ inodes) whole.dir) (λ whole has. (suc has.0, omega (arith, has.1), has.2)) wholes all

wholes_among : (g : Geometry) (image : List ℕ) (nodes : List Node) (inodes : List ℕ) (helds : List Held) (wholes : List Whole) (namings : List Naming) (steps : List Step) → AreHeldIn g image inodes helds
    → AreSortedOut nodes helds wholes namings steps → All (λ (whole : Whole). Contains inodes whole.dir) wholes
wholes_among g image nodes [] helds wholes namings steps are sorted =
    let none : AreSortedOut nodes [] wholes namings steps = subst (λ (hs : List Held). AreSortedOut nodes hs wholes namings steps) are sorted in
    subst (λ (ws : List Whole). All (λ (whole : Whole). Contains [] whole.dir) ws) (sym none.0) (All-nil (λ (whole : Whole). Contains [] whole.dir))
wholes_among g image nodes (ino ∷ inodes) helds wholes namings steps (inr (none, are)) sorted = behind_first ino inodes wholes (wholes_among g image nodes inodes helds wholes namings steps are sorted)
wholes_among g image nodes (ino ∷ inodes) helds wholes namings steps (inl (one, rest, both, dir, by, are)) sorted =
    let more : AreSortedOut nodes (one ∷ rest) wholes namings steps = subst (λ (hs : List Held). AreSortedOut nodes hs wholes namings steps) both sorted in
    let here : Contains (ino ∷ inodes) more.0.dir = (0, omega arith, sym dir ∙ sym more.6.dir) in
    let behind = behind_first ino inodes more.1 (wholes_among g image nodes inodes rest more.1 more.3 more.5 are more.8) in
    subst (λ (ws : List Whole). All (λ (whole : Whole). Contains (ino ∷ inodes) whole.dir) ws) (sym more.9) (All-cons (λ (whole : Whole). Contains (ino ∷ inodes) whole.dir) more.0 more.1 here behind)

pub wholes_live : (g : Geometry) (m : Manifest) (image : List ℕ) (live : List ℕ) (census : Census) (out : SortedOut) → AreLive g m live → CensusHolds g image live census → SortsOut census.nodes.items census.held.items out
    → All (λ (whole : Whole). IsLive g m whole.dir) out.wholes.items
wholes_live g m image live census out are_live holds sorts =
    All-weaker (λ (whole : Whole). Contains live whole.dir) (λ (whole : Whole). IsLive g m whole.dir) (λ whole has. (are_live.each whole.dir).0 has) out.wholes.items
    (wholes_among g image census.nodes.items live census.held.items out.wholes.items out.namings.items out.steps.items holds.held sorts)

-- a live inode that is none of them holds no entries
pub others_are : (g : Geometry) (m : Manifest) (image : List ℕ) (live : List ℕ) (census : Census) (out : SortedOut) (dir : ℕ) → AreLive g m live → CensusHolds g image live census → SortsOut census.nodes.items census.held.items out
    → IsLive g m dir → All (λ (whole : Whole). whole.dir ≢ dir) out.wholes.items → (entries : List Entry) (dotdot : ℕ) → ¬ IsHeld g image dir entries dotdot
others_are g m image live census out dir are_live holds sorts is_live differ =
    no_entries g m image live census out dir are_live holds sorts is_live
    (λ found. differ found.0 found.1 found.2 (ap (λ (whole : Whole). whole.dir) found.3 ∙ found.4))
