-- The entries of an image, each with the directory in which it stands: of them the rules between inodes speak.
use Rattle.std.specs.Prelude.{◌≡◌, ◌⊎◌, ℕ, ◌<◌, ◌↔◌, ◌==◌, List, [], ◌∷◌, ◌++◌, length, map, filter, All, Any, Contains, Some}
use Rattle.std.specs.List.{AllAdjacentBelow}
use Rattle.xn_bytes.specs.declared.kind.Kind.{Kind}
use Rattle.xn_bytes.specs.Numbers.{number_at}
use Rattle.xn_bytes.specs.Kinds.{kind_of_mode}
use Rattle.xn_bytes.specs.Superblock.{Geometry}
use Rattle.xn_bytes.specs.Inode.{inode_of, HasCore, HasBothForks}
use Rattle.xn_bytes.specs.Entries.{Entry}
use Rattle.xn_bytes.specs.Directory.{HasNames}
use Rattle.xn_bytes.specs.DirectoryHolds.{DirHolds}
use Rattle.xn_bytes.specs.DirectoryRules.{HasInode}
use Rattle.xn_bytes.specs.Parents.{ParentRecord}
use Rattle.xn_meaning.specs.Manifests.{Manifest, IsLive}
use Rattle.xn_rules.specs.InodeRules.{IsOfDirectory}

-- the live inodes, in rising order
pub record AreLive (g : Geometry) (m : Manifest) (live : List ℕ) : Type 0 where
  pub rising : AllAdjacentBelow (λ a b. a < b) live (length live)
  pub each : (ino : ℕ) → Contains live ino ↔ IsLive g m ino

-- ---- whole directories

-- Of rule 21: the inode of an entry is live, and has the kind that the entry says, where its core and its forks are right.
pub record IsRightEntry (g : Geometry) (m : Manifest) (image : List ℕ) (entry : Entry) : Type 0 where
  pub live : IsLive g m entry.ino
  pub kind : HasCore (inode_of g image entry.ino) entry.ino g.meta_uuid → HasBothForks g (inode_of g image entry.ino) entry.ino
      → kind_of_mode (number_at 2 2 (inode_of g image entry.ino)) ≡ Some entry.kind

-- a directory of which rules 10, 11, 13 and 15 to 21 hold, with its entries and its dotdot
pub record IsWhole (g : Geometry) (m : Manifest) (image : List ℕ) (dir : ℕ) (entries : List Entry) (dotdot : ℕ) : Type 0 where
  pub directory : IsOfDirectory (inode_of g image dir)
  pub inode : HasInode g (inode_of g image dir) dir
  pub holds : DirHolds g image dir entries dotdot
  pub names : HasNames entries
  pub right : All (IsRightEntry g m image) entries

-- ---- the entries of all whole directories

-- in a directory a name names an inode, as one of a kind
pub record Naming : Type 0 where
  pub dir : ℕ
  pub name : List ℕ
  pub ino : ℕ
  pub kind : Kind

abbrev pub naming_of : ℕ → Entry → Naming
naming_of dir entry = record { dir = dir; name = entry.name; ino = entry.ino; kind = entry.kind }

-- the entries of one inode: those of a whole directory, else none
abbrev pub AreNamingsOf : Geometry → Manifest → List ℕ → ℕ → List Naming → Type 0
AreNamingsOf g m image dir namings =
    ((entries : List Entry) × (dotdot : ℕ) × IsWhole g m image dir entries dotdot × (namings ≡ map (naming_of dir) entries))
    ⊎ (((entries : List Entry) (dotdot : ℕ) → ¬ IsWhole g m image dir entries dotdot) × (namings ≡ []))

-- those of some inodes, one inode behind the other
abbrev pub AreNamingsIn : Geometry → Manifest → List ℕ → List ℕ → List Naming → Type 0
AreNamingsIn g m image [] namings = namings ≡ []
AreNamingsIn g m image (dir ∷ dirs) namings =
    (own : List Naming) × (rest : List Naming) × AreNamingsOf g m image dir own × AreNamingsIn g m image dirs rest × (namings ≡ own ++ rest)

-- ---- by them

-- the entries that name an inode, and those that stand in a directory
abbrev pub naming : ℕ → List Naming → List Naming
naming ino namings = filter (λ n. n.ino == ino) namings

abbrev pub standing_in : ℕ → List Naming → List Naming
standing_in dir namings = filter (λ n. n.dir == dir) namings

-- the parent record that an entry asks for: its directory with that one's generation, and its name
abbrev pub record_for : Geometry → List ℕ → Naming → ParentRecord
record_for g image n = record { dir = n.dir; generation = number_at 4 92 (inode_of g image n.dir); name = n.name }

-- entries lead from a directory, over these, to another
abbrev pub Leads : List Naming → ℕ → List ℕ → ℕ → Type 0
Leads namings from [] to = from ≡ to
Leads namings from (next ∷ path) to = Any (λ n. (n.dir ≡ from) × (n.ino ≡ next)) namings × Leads namings next path to
