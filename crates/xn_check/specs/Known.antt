-- What is known of an image once its inodes were looked at one by one and the entries of its directories were taken out.
use Rattle.std.specs.Prelude.{◌≡◌, ◌≢◌, ◌⊎◌, ◌↔◌, ℕ, ◌<◌, true, false, IsTrue, Option, MatchOption}
use Rattle.std.specs.Prelude.{List, [], length, map, filter, count_by, Some, All, Contains, IsPermutation}
use Rattle.std.specs.List.{AllAdjacentBelow}
use Rattle.std.specs.List.Sorted.{IsNonDecreasingBy}
use Rattle.xn_bytes.specs.Numbers.{number_at}
use Rattle.xn_bytes.specs.Kinds.{kind_of_mode}
use Rattle.xn_bytes.specs.Superblock.{Geometry}
use Rattle.xn_bytes.specs.Inode.{inode_of, HasCore, HasBothForks}
use Rattle.xn_bytes.specs.Entries.{Entry}
use Rattle.xn_bytes.specs.Parents.{ParentRecord}
use Rattle.xn_bytes.specs.AttributeForks.{HasOwnInode}
use Rattle.xn_bytes.specs.ParentRecords.{IsParentsOf}
use Rattle.xn_meaning.specs.Manifests.{Manifest, IsLive}
use Rattle.xn_rules.specs.InodeRules.{IsOfDirectory}
use Rattle.xn_rules.specs.Namings.{IsRightEntry, IsWhole, Naming as Means, Leads, naming, standing_in, record_for}
use Rattle.xn_rules.specs.NameRules.{BreaksLinks, BreaksDirectoryLinks, BreaksEntries, BreaksDots, BreaksTree, BreaksRecords}
use Rattle.xn_rules.specs.NameRules.{HasDirectoryLinks, HasDot, HasPlaceInTree, HasRightDotdot, says_directory}
use Rattle.xn_facts.specs.Facts.{IsHeld}
use Rattle.xn_census.specs.declared.sorted_out.Whole.{Whole}
use Rattle.xn_names.specs.declared.entry.Naming.{Naming}
use Rattle.xn_names.specs.Names.{naming_of, IsInOrder}
use Rattle.xn_check.specs.declared.names.Names.{Names}

-- a directory of which rule 21 holds, among the entries of all: it has entries, this dotdot, its dot or not, and so many directories
pub record IsRightWhole (g : Geometry) (m : Manifest) (image : List ℕ) (namings : List Means) (whole : Whole) : Type 0 where
  pub entries : List Entry
  pub holds : IsWhole g m image whole.dir entries whole.dotdot
  pub dot : IsTrue whole.has_dot ↔ HasDot g image whole.dir
  pub subdirectories : whole.subdirectories ≡ count_by says_directory (standing_in whole.dir namings)
  pub empty : IsTrue whole.is_empty ↔ (standing_in whole.dir namings ≡ [])

-- no rule that speaks of whole directories is looked at
abbrev pub IsNoWhole : Geometry → Manifest → List ℕ → ℕ → Type 0
IsNoWhole g m image dir = (entries : List Entry) (dotdot : ℕ) → ¬ IsWhole g m image dir entries dotdot

-- nor one that speaks of entries with names
abbrev pub IsNotHeld : Geometry → List ℕ → ℕ → Type 0
IsNotHeld g image dir = (entries : List Entry) (dotdot : ℕ) → ¬ IsHeld g image dir entries dotdot

-- a directory that holds entries with names: it is whole where they are right, else it breaks rule 21
pub record WholeHolds (g : Geometry) (m : Manifest) (image : List ℕ) (namings : List Means) (whole : Whole) : Type 0 where
  pub right : whole.is_right ≡ true → IsRightWhole g m image namings whole
  pub wrong : whole.is_right ≡ false → BreaksEntries g m image whole.dir × IsNoWhole g m image whole.dir

-- an entry of a whole directory names its inode as one of its kind, where that one's core and forks are right
pub record StandsWhole (g : Geometry) (m : Manifest) (image : List ℕ) (n : Means) : Type 0 where
  pub entries : List Entry
  pub dotdot : ℕ
  pub whole : IsWhole g m image n.dir entries dotdot
  pub kind : HasCore (inode_of g image n.ino) n.ino g.meta_uuid → HasBothForks g (inode_of g image n.ino) n.ino
      → kind_of_mode (number_at 2 2 (inode_of g image n.ino)) ≡ Some n.kind

-- what is found among these of a directory, if anything is
abbrev pub IsWholeAmong : List Whole → ℕ → Option Whole → Type 0
IsWholeAmong wholes dir found = MatchOption found (All (λ whole. whole.dir ≢ dir) wholes) (λ whole. Contains wholes whole × (whole.dir ≡ dir))

-- what is so said of it
abbrev pub WholeIs : Geometry → Manifest → List ℕ → List Means → ℕ → Option Whole → Type 0
WholeIs g m image namings dir found =
    MatchOption found (IsNotHeld g image dir) (λ whole. (whole.dir ≡ dir) × WholeHolds g m image namings whole)

-- the entries of all whole directories, as the rules see them
abbrev pub meant : Names → List Means
meant names = map naming_of names.namings.items

-- They are in order, and so are the directories: what a search by halves wants.
pub record AreSearched (names : Names) : Type 0 where
  pub in_order : IsInOrder names.namings.items
  pub namings : IsNonDecreasingBy (λ n. n.ino) names.namings.items
  pub wholes : AllAdjacentBelow (λ a b. a.dir < b.dir) names.wholes.items (length names.wholes.items)

-- an entry has the generation of its directory
abbrev pub HasItsGeneration : Geometry → List ℕ → Naming → Type 0
HasItsGeneration g image n = n.generation ≡ number_at 4 92 (inode_of g image n.dir)

-- The directories that hold entries with names, the entries of those whose entries are right, and what entries that are directories
-- lead to from the root, over an image.
pub record NamesHold (g : Geometry) (m : Manifest) (image : List ℕ) (names : Names) : Type 0 where
  pub wholes : All (WholeHolds g m image (meant names)) names.wholes.items
  pub others : (dir : ℕ) → IsLive g m dir → All (λ whole. whole.dir ≢ dir) names.wholes.items → IsNotHeld g image dir
  pub generations : All (HasItsGeneration g image) names.namings.items
  pub standing : All (StandsWhole g m image) (meant names)
  pub leads : (number : ℕ) → Contains names.reached number ↔ ((path : List ℕ) × Leads (filter says_directory (meant names)) g.root path number)

-- ---- what each of the rules between inodes says, where it is looked at

-- rule 12, of what is no directory and of a whole directory
pub record HoldsTwelve (g : Geometry) (m : Manifest) (image : List ℕ) (namings : List Means) (ino : ℕ) : Type 0 where
  pub other : HasCore (inode_of g image ino) ino g.meta_uuid → HasBothForks g (inode_of g image ino) ino
      → ¬ IsOfDirectory (inode_of g image ino) → number_at 4 16 (inode_of g image ino) ≡ length (naming ino namings)
  pub directory : (entries : List Entry) (dotdot : ℕ) → IsWhole g m image ino entries dotdot
      → HasDirectoryLinks g namings ino (number_at 4 16 (inode_of g image ino))

-- rule 21, of a directory that holds entries with names
abbrev pub HoldsEntries : Geometry → Manifest → List ℕ → ℕ → Type 0
HoldsEntries g m image dir = (entries : List Entry) (dotdot : ℕ) → IsHeld g image dir entries dotdot → All (IsRightEntry g m image) entries

-- rule 22, of a whole directory
abbrev pub HoldsDots : Geometry → Manifest → List ℕ → List Means → ℕ → Type 0
HoldsDots g m image namings dir =
    (entries : List Entry) (dotdot : ℕ) → IsWhole g m image dir entries dotdot → HasDot g image dir × HasRightDotdot g namings dir dotdot

-- rule 23, of a whole directory
abbrev pub HoldsTree : Geometry → Manifest → List ℕ → List Means → ℕ → Type 0
HoldsTree g m image namings dir = (entries : List Entry) (dotdot : ℕ) → IsWhole g m image dir entries dotdot → HasPlaceInTree g namings dir

-- rule 27, of parent records that are well formed
abbrev pub HoldsRecords : Geometry → List ℕ → List Means → ℕ → Type 0
HoldsRecords g image namings ino =
    (records : List ParentRecord) → HasOwnInode g (inode_of g image ino) ino → IsParentsOf g image ino records
    → IsPermutation records (map (record_for g image) (naming ino namings))

-- all of them
pub record HoldsBetween (g : Geometry) (m : Manifest) (image : List ℕ) (namings : List Means) (ino : ℕ) : Type 0 where
  pub links : HoldsTwelve g m image namings ino
  pub entries : HoldsEntries g m image ino
  pub dots : HoldsDots g m image namings ino
  pub place : HoldsTree g m image namings ino
  pub records : HoldsRecords g image namings ino

-- ---- those that are broken, by their numbers

-- rule 12
abbrev pub BreaksTwelve : Geometry → Manifest → List ℕ → List Means → ℕ → Type 0
BreaksTwelve g m image namings ino = BreaksLinks g image namings ino ⊎ BreaksDirectoryLinks g m image namings ino

-- one of them is broken; none names a block
abbrev pub BreaksBetween : Geometry → Manifest → List ℕ → List Means → ℕ → ℕ → ℕ → Type 0
BreaksBetween g m image namings ino rule block =
    (block ≡ 0)
    × (((rule ≡ 12) × BreaksTwelve g m image namings ino)
    ⊎ ((rule ≡ 21) × BreaksEntries g m image ino)
    ⊎ ((rule ≡ 22) × BreaksDots g m image namings ino)
    ⊎ ((rule ≡ 23) × BreaksTree g m image namings ino)
    ⊎ ((rule ≡ 27) × BreaksRecords g image namings ino))
