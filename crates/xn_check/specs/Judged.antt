-- What is judged of an image by what was found of its live inodes.
use Rattle.std.specs.Prelude.{◌≡◌, ◌≢◌, ◌⊎◌, ◌↔◌, ◌<◌, ℕ, List, Contains, length, map, filter, All, IsPermutation, Result, Ok, Err}
use Rattle.std.specs.List.{AllAdjacentBelow}
use Rattle.std.specs.List.Sorted.{IsNonDecreasingBy}
use Rattle.xn_bytes.specs.Numbers.{number_at}
use Rattle.xn_bytes.specs.Superblock.{Geometry}
use Rattle.xn_bytes.specs.Inode.{inode_of}
use Rattle.xn_bytes.specs.Extents.{Run}
use Rattle.xn_meaning.specs.Manifests.{Manifest, IsLive}
use Rattle.xn_rules.specs.Namings.{AreLive, Leads, Naming as Means}
use Rattle.xn_rules.specs.NameRules.{Stands, says_directory}
use Rattle.xn_rules.specs.Sound.{HasRightRoot, MapOnce, IsFirstInode}
use Rattle.xn_facts.specs.Facts.{NodeHolds}
use Rattle.xn_facts.specs.declared.facts.Node.{Node}
use Rattle.xn_names.specs.Names.{naming_of}
use Rattle.xn_names.specs.declared.entry.Naming.{Naming}
use Rattle.xn_reach.specs.declared.step.Step.{Step}
use Rattle.xn_census.specs.declared.sorted_out.SortedOut.{SortedOut}
use Rattle.xn_census.specs.SortedOut.{names_directory}
use Rattle.xn_check.specs.Known.{IsNotHeld, StandsWhole, WholeHolds, meant}
use Rattle.xn_check.specs.declared.names.Names.{Names}
use Rattle.xn_check.specs.declared.fault.CheckFault.{CheckFault}
use Rattle.xn_check.specs.declared.fault.CheckFault.TheVariants as faults

-- the step that an entry is
abbrev pub step_of : Naming → Step
step_of n = record { from = n.dir; to = n.ino }

-- the entries, as the rules see them
abbrev pub meant_by : SortedOut → List Means
meant_by out = map naming_of out.namings.items

-- directories rise, and so do the directories from which steps go, which are those of the entries that are directories
pub record IsSortedOut (out : SortedOut) : Type 0 where
  pub wholes : AllAdjacentBelow (λ a b. a.dir < b.dir) out.wholes.items (length out.wholes.items)
  pub steps : out.steps.items ≡ map step_of (filter names_directory out.namings.items)
  pub rising : IsNonDecreasingBy (λ step. step.from) out.steps.items

-- the directories that hold entries with names, and the entries of those whose entries are right, over an image
pub record OutHolds (g : Geometry) (m : Manifest) (image : List ℕ) (out : SortedOut) : Type 0 where
  pub wholes : All (WholeHolds g m image (meant_by out)) out.wholes.items
  pub others : (dir : ℕ) → IsLive g m dir → All (λ whole. whole.dir ≢ dir) out.wholes.items → IsNotHeld g image dir
  pub generations : All (λ n. n.generation ≡ number_at 4 92 (inode_of g image n.dir)) out.namings.items
  pub standing : All (StandsWhole g m image) (meant_by out)

-- what is known of an image: its live inodes, each by itself, and its entries
pub record IsFound (g : Geometry) (m : Manifest) (image : List ℕ) (live : List ℕ) (nodes : List Node) (out : SortedOut) : Type 0 where
  pub are_live : AreLive g m live
  pub nodes_hold : All (NodeHolds g image) nodes
  pub out_holds : OutHolds g m image out

-- the first rule from 5 on that is broken, by the live inodes, the entries and the runs
abbrev pub IsFirstRule : Geometry → Manifest → List ℕ → List ℕ → List Means → List Run → ℕ → ℕ → ℕ → Type 0
IsFirstRule g m image live namings runs rule inode block =
    ((rule ≡ 5) × (inode ≡ 0) × (block ≡ 0) × ¬ HasRightRoot g m image namings)
    ⊎ (HasRightRoot g m image namings
    × (((rule ≡ 9) × (inode ≡ 0) × (block ≡ 0) × ¬ MapOnce live runs)
    ⊎ (MapOnce live runs × IsFirstInode g m image namings rule inode block)))

-- all of them hold
pub record HoldsAll (g : Geometry) (m : Manifest) (image : List ℕ) (live : List ℕ) (namings : List Means) (runs : List Run) : Type 0 where
  pub root : HasRightRoot g m image namings
  pub once : MapOnce live runs
  pub stands : All (Stands g m image namings) live

-- what was judged: how many entries there are where all rules hold, else the first that is broken
abbrev pub IsJudged : Geometry → Manifest → List ℕ → List ℕ → List Means → List Run → Result ℕ CheckFault → Type 0
IsJudged g m image live namings runs (Ok entries) = HoldsAll g m image live namings runs × (entries ≡ length namings)
IsJudged g m image live namings runs (Err faults.Read) = ⊥
IsJudged g m image live namings runs (Err faults.Memory) = Unit {0}
IsJudged g m image live namings runs (Err (faults.Broken rule inode block)) = IsFirstRule g m image live namings runs rule inode block

-- by the entries in some order
abbrev pub Judges : Geometry → Manifest → List ℕ → List ℕ → SortedOut → List Run → Result ℕ CheckFault → Type 0
Judges g m image live out runs result = (namings : List Means) × IsPermutation (meant_by out) namings × IsJudged g m image live namings runs result

-- the same directories, the same entries in order, and what entries that are directories lead to from the root
pub record AreNamesOf (g : Geometry) (out : SortedOut) (names : Names) : Type 0 where
  pub wholes : names.wholes.items ≡ out.wholes.items
  pub namings : IsPermutation out.namings.items names.namings.items
  pub leads : (number : ℕ) → Contains names.reached number ↔ ((path : List ℕ) × Leads (filter says_directory (meant names)) g.root path number)
