-- The rules of the checker between inodes: of links, of dot and dotdot, of the tree of directories, and of parent records. Each is
-- looked at only where those that it needs hold of the same inode.
use Rattle.std.specs.Prelude.{◌≡◌, ◌≢◌, ◌⊎◌, ℕ, ◌+◌, Bool, true, false, List, [], length, map, count_by, All, Any, IsPermutation, Some}
use Rattle.xn_bytes.specs.declared.kind.Kind.{Kind}
use Rattle.xn_bytes.specs.declared.kind.Kind.TheVariants.{Reg, Dir, Chr, Blk, Fifo, Sock, Lnk}
use Rattle.xn_bytes.specs.Numbers.{number_at}
use Rattle.xn_bytes.specs.Superblock.{Geometry}
use Rattle.xn_bytes.specs.Blocks.{block_of}
use Rattle.xn_bytes.specs.Inode.{inode_of, extents_format, HasCore, HasBothForks}
use Rattle.xn_bytes.specs.Extents.{mapped}
use Rattle.xn_bytes.specs.Entries.{Entry}
use Rattle.xn_bytes.specs.DirectoryForms.{data_runs_of}
use Rattle.xn_bytes.specs.DirectoryHolds.{DirHolds}
use Rattle.xn_bytes.specs.DirectoryRules.{HasInode}
use Rattle.xn_bytes.specs.Directory.{HasNames}
use Rattle.xn_bytes.specs.Parents.{ParentRecord}
use Rattle.xn_bytes.specs.ParentRecords.{IsParentsOf}
use Rattle.xn_bytes.specs.AttributeForks.{HasOwnInode}
use Rattle.xn_meaning.specs.Manifests.{Manifest}
use Rattle.xn_rules.specs.InodeRules.{IsOfDirectory, HasBlockCount, BreaksAlone}
use Rattle.xn_rules.specs.Namings.{IsRightEntry, IsWhole, Naming, naming, standing_in, record_for, Leads}

-- ---- rule 12, links

-- the kind of directories
abbrev pub is_directory : Kind → Bool
is_directory Dir = true
is_directory Reg = false
is_directory Chr = false
is_directory Blk = false
is_directory Fifo = false
is_directory Sock = false
is_directory Lnk = false

-- an entry says of its inode that it is a directory
abbrev pub says_directory : Naming → Bool
says_directory n = is_directory n.kind

-- no entry names it and it isn't the root
pub record IsUnnamed (g : Geometry) (namings : List Naming) (ino : ℕ) : Type 0 where
  pub not_root : ino ≢ g.root
  pub none : naming ino namings ≡ []

-- the links of a directory: 2 and one for each directory in it, or none where it is detached
abbrev pub HasDirectoryLinks : Geometry → List Naming → ℕ → ℕ → Type 0
HasDirectoryLinks g namings dir links =
    (IsUnnamed g namings dir × (links ≡ 0))
    ⊎ (¬ IsUnnamed g namings dir × (links ≡ 2 + count_by says_directory (standing_in dir namings)))

-- rule 12 of what is no directory is looked at and broken: the links are not as many as the entries that name it
pub record BreaksLinks (g : Geometry) (image : List ℕ) (namings : List Naming) (ino : ℕ) : Type 0 where
  pub core : HasCore (inode_of g image ino) ino g.meta_uuid
  pub forks : HasBothForks g (inode_of g image ino) ino
  pub other : ¬ IsOfDirectory (inode_of g image ino)
  pub wrong : number_at 4 16 (inode_of g image ino) ≢ length (naming ino namings)

-- and of a whole directory
pub record BreaksDirectoryLinks (g : Geometry) (m : Manifest) (image : List ℕ) (namings : List Naming) (dir : ℕ) : Type 0 where
  pub entries : List Entry
  pub dotdot : ℕ
  pub whole : IsWhole g m image dir entries dotdot
  pub wrong : ¬ HasDirectoryLinks g namings dir (number_at 4 16 (inode_of g image dir))

-- ---- rule 21, entries against inodes

-- The entries of a directory have names, each once; but the inode of one is not live, or not of the kind that it says.
pub record BreaksEntries (g : Geometry) (m : Manifest) (image : List ℕ) (dir : ℕ) : Type 0 where
  pub directory : IsOfDirectory (inode_of g image dir)
  pub inode : HasInode g (inode_of g image dir) dir
  pub entries : List Entry
  pub dotdot : ℕ
  pub holds : DirHolds g image dir entries dotdot
  pub names : HasNames entries
  pub wrong : ¬ All (IsRightEntry g m image) entries

-- ---- rule 22, dot and dotdot

-- dot, which stands at 64 of the first data block where there is one, is the directory
abbrev pub HasDot : Geometry → List ℕ → ℕ → Type 0
HasDot g image dir =
    (block : ℕ) → number_at 1 5 (inode_of g image dir) ≡ extents_format → mapped (data_runs_of (inode_of g image dir)) 0 ≡ Some block
    → number_at 8 64 (block_of g image block) ≡ dir

-- dotdot is the root's for the root, and for another directory one in which an entry names it; where none does it may be any
abbrev pub HasRightDotdot : Geometry → List Naming → ℕ → ℕ → Type 0
HasRightDotdot g namings dir dotdot =
    ((dir ≡ g.root) × (dotdot ≡ g.root))
    ⊎ IsUnnamed g namings dir
    ⊎ ((dir ≢ g.root) × Any (λ n. n.dir ≡ dotdot) (naming dir namings))

pub record BreaksDots (g : Geometry) (m : Manifest) (image : List ℕ) (namings : List Naming) (dir : ℕ) : Type 0 where
  pub entries : List Entry
  pub dotdot : ℕ
  pub whole : IsWhole g m image dir entries dotdot
  pub wrong : ¬ (HasDot g image dir × HasRightDotdot g namings dir dotdot)

-- ---- rule 23, the tree of directories

-- No entry names the root. Another directory is named by one entry, and entries lead to it from the root; or it is detached, and
-- has no entry.
abbrev pub HasPlaceInTree : Geometry → List Naming → ℕ → Type 0
HasPlaceInTree g namings dir =
    ((dir ≡ g.root) × (naming dir namings ≡ []))
    ⊎ (IsUnnamed g namings dir × (standing_in dir namings ≡ []))
    ⊎ ((dir ≢ g.root) × (length (naming dir namings) ≡ 1) × ((path : List ℕ) × Leads namings g.root path dir))

pub record BreaksTree (g : Geometry) (m : Manifest) (image : List ℕ) (namings : List Naming) (dir : ℕ) : Type 0 where
  pub entries : List Entry
  pub dotdot : ℕ
  pub whole : IsWhole g m image dir entries dotdot
  pub wrong : ¬ HasPlaceInTree g namings dir

-- ---- rule 27, parent records against entries

-- The parent records, which are well formed, are not those that the entries ask for which name the inode.
pub record BreaksRecords (g : Geometry) (image : List ℕ) (namings : List Naming) (ino : ℕ) : Type 0 where
  pub own : HasOwnInode g (inode_of g image ino) ino
  pub records : List ParentRecord
  pub parents : IsParentsOf g image ino records
  pub wrong : ¬ IsPermutation records (map (record_for g image) (naming ino namings))

-- ---- a rule that an inode breaks

-- by itself, or against the entries of the image
abbrev pub BreaksRule : Geometry → Manifest → List ℕ → List Naming → ℕ → ℕ → ℕ → Type 0
BreaksRule g m image namings ino rule block =
    BreaksAlone g image ino rule block
    ⊎ ((block ≡ 0)
    × (((rule ≡ 12) × (BreaksLinks g image namings ino ⊎ BreaksDirectoryLinks g m image namings ino))
    ⊎ ((rule ≡ 21) × BreaksEntries g m image ino)
    ⊎ ((rule ≡ 22) × BreaksDots g m image namings ino)
    ⊎ ((rule ≡ 23) × BreaksTree g m image namings ino)
    ⊎ ((rule ≡ 27) × BreaksRecords g image namings ino)))

-- ---- an inode of which all rules hold

-- a whole directory with its links, dot and dotdot, and its place in the tree
pub record StandsAsDirectory (g : Geometry) (m : Manifest) (image : List ℕ) (namings : List Naming) (dir : ℕ) : Type 0 where
  pub entries : List Entry
  pub dotdot : ℕ
  pub whole : IsWhole g m image dir entries dotdot
  pub links : HasDirectoryLinks g namings dir (number_at 4 16 (inode_of g image dir))
  pub dot : HasDot g image dir
  pub right_dotdot : HasRightDotdot g namings dir dotdot
  pub place : HasPlaceInTree g namings dir

-- the parent records, which are those that the entries ask for which name the inode
pub record StandsByRecords (g : Geometry) (image : List ℕ) (namings : List Naming) (ino : ℕ) : Type 0 where
  pub records : List ParentRecord
  pub parents : IsParentsOf g image ino records
  pub same : IsPermutation records (map (record_for g image) (naming ino namings))

-- The core, the forks and the lists of extents are right; a directory is whole and has its place, with the count of its blocks; what is
-- no directory has a link for each entry that names it; and the parent records are those entries.
pub record Stands (g : Geometry) (m : Manifest) (image : List ℕ) (namings : List Naming) (ino : ℕ) : Type 0 where
  pub own : HasOwnInode g (inode_of g image ino) ino
  pub blocks : IsOfDirectory (inode_of g image ino) → HasBlockCount (inode_of g image ino)
  pub directory : IsOfDirectory (inode_of g image ino) → StandsAsDirectory g m image namings ino
  pub links : ¬ IsOfDirectory (inode_of g image ino) → number_at 4 16 (inode_of g image ino) ≡ length (naming ino namings)
  pub records : StandsByRecords g image namings ino
