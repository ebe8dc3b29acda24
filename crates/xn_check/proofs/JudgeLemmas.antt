-- What is known of sorted-out entries is known of them in order, and what steps lead to, entries do.
use Rattle.std.proofs.Common.{◌≡◌, ◌↔◌, ℕ, zero, suc, Bool, List, [], ◌∷◌, length, map, refl, sym, ap, subst, ◌∙◌, arith}
use Rattle.std.specs.Prelude.{All, Any, Contains, IsPermutation, IsTrue, filter, vec_len}
use Rattle.std.proofs.lemmas.List.{length-map}
use Rattle.std.proofs.lemmas.List.Elements.{All-same, All-weaker}
use Rattle.std.proofs.lemmas.List.Sorted.{All-permutation, IsPermutation-sym, IsPermutation-map, length_permutation}
use Rattle.xn_bytes.specs.Numbers.{number_at}
use Rattle.xn_bytes.specs.Superblock.{Geometry}
use Rattle.xn_bytes.specs.Inode.{inode_of}
use Rattle.xn_meaning.specs.Manifests.{Manifest}
use Rattle.xn_rules.specs.Namings.{AreLive, Naming as Means, Leads}
use Rattle.xn_rules.specs.NameRules.{says_directory}
use Rattle.xn_rules.specs.Sound.{HasRightRoot}
use Rattle.xn_facts.specs.Facts.{NodeHolds}
use Rattle.xn_facts.specs.declared.facts.Node.{Node}
use Rattle.xn_census.specs.declared.sorted_out.Whole.{Whole}
use Rattle.xn_census.specs.declared.sorted_out.SortedOut.{SortedOut}
use Rattle.xn_census.specs.SortedOut.{names_directory}
use Rattle.xn_names.specs.Names.{naming_of}
use Rattle.xn_names.specs.declared.entry.Naming.{Naming}
use Rattle.xn_names.proofs.Filtered.{map-filter}
use Rattle.xn_names.proofs.Permuted.{filter-permutation}
use Rattle.xn_names.proofs.Moved.{Leads-moved, count_standing-moved, no_standing-moved}
use Rattle.xn_reach.specs.Steps as steps
use Rattle.xn_check.specs.Known.{IsRightWhole, StandsWhole, WholeHolds, NamesHold, meant}
use Rattle.xn_check.specs.Judged.{AreNamesOf, IsFound, IsSortedOut, OutHolds, meant_by, step_of}
use Rattle.xn_check.specs.declared.names.Names.{Names}

-- ---- of some element, through a function of the elements

any_mapped : {X Y : Type 0} (f : X → Y) (P : Y → Type 0) (xs : List X) → Any (λ x. P (f x)) xs → Any P (map f xs)
any_mapped f P [] (k, x, lt, same, holds) = absurd (omega arith)
any_mapped f P (y ∷ xs) (zero, x, lt, same, holds) = (zero, f x, omega arith, ap f same, holds)
any_mapped f P (y ∷ xs) (suc k, x, lt, same, holds) =
    let there = any_mapped f P xs (k, x, omega arith, same, holds) in
    (suc there.0, there.1, omega (arith, there.2), there.3, there.4)

mapped_any : {X Y : Type 0} (f : X → Y) (P : Y → Type 0) (xs : List X) → Any P (map f xs) → Any (λ x. P (f x)) xs
mapped_any f P [] (k, z, lt, same, holds) = absurd (omega arith)
mapped_any f P (y ∷ xs) (zero, z, lt, same, holds) = (zero, y, omega arith, refl, rw same holds)
mapped_any f P (y ∷ xs) (suc k, z, lt, same, holds) =
    let there = mapped_any f P xs (k, z, omega arith, same, holds) in
    (suc there.0, there.1, omega (arith, there.2), there.3, there.4)

-- ---- of ways

-- a way of the entries' steps is one of the entries
entries_lead : (namings : List Naming) (from : ℕ) (path : List ℕ) (to : ℕ) → steps.Leads (map step_of namings) from path to → Leads (map naming_of namings) from path to
entries_lead namings from [] to same = same
entries_lead namings from (next ∷ path) to (some, rest) = (
  any_mapped naming_of (λ n. (n.dir ≡ from) × (n.ino ≡ next)) namings (mapped_any step_of (λ s. (s.from ≡ from) × (s.to ≡ next)) namings some),
  entries_lead namings next path to rest,
)

steps_lead : (namings : List Naming) (from : ℕ) (path : List ℕ) (to : ℕ) → Leads (map naming_of namings) from path to → steps.Leads (map step_of namings) from path to
steps_lead namings from [] to same = same
steps_lead namings from (next ∷ path) to (some, rest) = (
  any_mapped step_of (λ s. (s.from ≡ from) × (s.to ≡ next)) namings (mapped_any naming_of (λ n. (n.dir ≡ from) × (n.ino ≡ next)) namings some),
  steps_lead namings next path to rest,
)

-- the entries that are directories, as the rules see them
directories_meant : (namings : List Naming) → map naming_of (filter names_directory namings) ≡ filter says_directory (map naming_of namings)
directories_meant namings = map-filter naming_of says_directory namings

-- so what steps to directories lead to is what entries in another order that are directories lead to
pub led_in_order : (g : Geometry) (out : SortedOut) (namings : List Naming) (reached : List ℕ) → IsSortedOut out → IsPermutation out.namings.items namings
    → ((number : ℕ) → Contains reached number ↔ ((path : List ℕ) × steps.Leads out.steps.items g.root path number))
    → (number : ℕ) → Contains reached number ↔ ((path : List ℕ) × Leads (filter says_directory (map naming_of namings)) g.root path number)
led_in_order g out namings reached sorted moved told number =
    let own : List Naming = filter names_directory out.namings.items in
    let others : List Naming = filter names_directory namings in
    let same : IsPermutation own others = filter-permutation names_directory out.namings.items namings moved in
    let there : IsPermutation (map naming_of own) (map naming_of others) = IsPermutation-map naming_of own others same in
    let back : IsPermutation (map naming_of others) (map naming_of own) = IsPermutation-sym (map naming_of own) (map naming_of others) there in
    let ways = rw sorted.steps at (told number) in (
      λ reaches.
          let way = ways.0 reaches in (
            way.0,
            subst (λ (ns : List Means). Leads ns g.root way.0 number) (directories_meant namings)
                (Leads-moved (map naming_of own) (map naming_of others) there g.root way.0 number (entries_lead own g.root way.0 number way.1)),
          ),
      λ way.
          let others_lead = subst (λ (ns : List Means). Leads ns g.root way.0 number) (sym (directories_meant namings)) way.1 in
          ways.1 (way.0, steps_lead own g.root way.0 number (Leads-moved (map naming_of others) (map naming_of own) back g.root way.0 number others_lead)),
    )

-- ---- of directories

IsRightWhole-moved : (g : Geometry) (m : Manifest) (image : List ℕ) (xs ys : List Means) → IsPermutation xs ys → (whole : Whole) → IsRightWhole g m image xs whole → IsRightWhole g m image ys whole
IsRightWhole-moved g m image xs ys moved whole right = record {
  entries = right.entries;
  holds = right.holds;
  dot = right.dot;
  subdirectories = right.subdirectories ∙ count_standing-moved says_directory whole.dir xs ys moved;
  empty = (
    λ told. no_standing-moved whole.dir xs ys moved (right.empty.0 told),
    λ none. right.empty.1 (no_standing-moved whole.dir ys xs (IsPermutation-sym xs ys moved) none),
  );
}

WholeHolds-moved : (g : Geometry) (m : Manifest) (image : List ℕ) (xs ys : List Means) → IsPermutation xs ys → (whole : Whole) → WholeHolds g m image xs whole → WholeHolds g m image ys whole
WholeHolds-moved g m image xs ys moved whole holds = record {
  right = λ told. IsRightWhole-moved g m image xs ys moved whole (holds.right told);
  wrong = holds.wrong;
}

-- ---- of the whole image

-- the entries in order are those that were sorted out
pub meant_in_order : {g : Geometry} {out : SortedOut} {names : Names} → AreNamesOf g out names → IsPermutation (meant_by out) (meant names)
meant_in_order {g} {out} {names} are = IsPermutation-map naming_of out.namings.items names.namings.items are.namings

pub names_hold : {g : Geometry} {m : Manifest} {image : List ℕ} {out : SortedOut} {names : Names} → AreNamesOf g out names → OutHolds g m image out → NamesHold g m image names
names_hold {g} {m} {image} {out} {names} are holds = record {
  wholes =
      All-same (WholeHolds g m image (meant names)) names.wholes.items out.wholes.items are.wholes
      (All-weaker (WholeHolds g m image (meant_by out)) (WholeHolds g m image (meant names))
      (WholeHolds-moved g m image (meant_by out) (meant names) (meant_in_order are)) out.wholes.items holds.wholes);
  others = rw are.wholes holds.others;
  generations = All-permutation (λ n. n.generation ≡ number_at 4 92 (inode_of g image n.dir)) out.namings.items names.namings.items are.namings holds.generations;
  standing = All-permutation (StandsWhole g m image) (meant_by out) (meant names) (meant_in_order are) holds.standing;
  leads = are.leads;
}

-- ---- what is told of an image that was found

-- the nodes are those of the live inodes
pub nodes_are_live : {g : Geometry} {m : Manifest} {image live : List ℕ} {nodes : List Node} {out : SortedOut} → IsFound g m image live nodes out → map (λ (node : Node). node.ino) nodes ≡ live
    → AreLive g m (map (λ (node : Node). node.ino) nodes)
nodes_are_live found same = rw same found.are_live

-- entries in another order are as many
pub as_many : (out : SortedOut) (namings : List Means) (entries : ℕ) → entries ≡ vec_len out.namings → IsPermutation (meant_by out) namings → entries ≡ length namings
as_many out namings entries same moved = same ∙ out.namings.ok.0 ∙ sym (length-map out.namings.items naming_of) ∙ sym (length_permutation (meant_by out) namings moved)

-- what a test of the root tells, of entries in any order
pub root_told : {g : Geometry} {m : Manifest} {image live : List ℕ} {nodes : List Node} {out : SortedOut} → IsFound g m image live nodes out → map (λ (node : Node). node.ino) nodes ≡ live
    → (entries : ℕ) → entries ≡ vec_len out.namings → (right : Bool)
    → ((n : Manifest) (bytes : List ℕ) (namings : List Means) → AreLive g n (map (λ (node : Node). node.ino) nodes) → All (NodeHolds g bytes) nodes → entries ≡ length namings
    → (IsTrue right ↔ HasRightRoot g n bytes namings))
    → (namings : List Means) → IsPermutation (meant_by out) namings → (IsTrue right ↔ HasRightRoot g m image namings)
root_told {m} {image} {out} found same entries counted right told namings moved =
    told m image namings (nodes_are_live found same) found.nodes_hold (as_many out namings entries counted moved)
