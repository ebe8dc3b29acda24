-- A name space: the live inodes, and the map from directory and name to inode. And what the reading commands answer of it. Nothing of
-- blocks and bytes is here.
use Rattle.std.specs.Prelude.{◌≡◌, ◌≢◌, ◌⊎◌, ℕ, ◌≤◌, List, [], ◌∷◌, length, All, Any, Contains, Option, Some, None}
use Rattle.std.specs.List.{AllAdjacentBelow}
use Rattle.xn_bytes.specs.declared.kind.Kind.{Kind}
use Rattle.xn_bytes.specs.declared.kind.Kind.TheVariants.{Dir}
use Rattle.xn_meaning.specs.declared.errno.Errno.TheVariants.{ENOENT, ENOTDIR}
use Rattle.xn_bytes.specs.Names.{IsName}
use Rattle.xn_bytes.specs.Parents.{ParentRecord}
use Rattle.xn_bytes.specs.ParentRecords.{IsBefore}
use Rattle.xn_meaning.specs.Paths.{parts_of}
use Rattle.xn_meaning.specs.Replies.{Reply, Line, ListOf, ParentsOf, ErrorOf}
use Rattle.xn_meaning.specs.NameSpace.{AreLinesOfMap, NameMap, Place, Says, TakesInMap, Walks}

-- what a name space knows of an inode
pub record Inode : Type 0 where
  pub kind : Kind
  pub generation : ℕ

-- A root, the live inodes by their numbers, and which inode a name in a directory names.
pub record NameSpace : Type 0 where
  pub root : ℕ
  pub live : ℕ → Option Inode
  pub entries : ℕ → List ℕ → Option ℕ

-- ---- what is a name space

-- an inode is live, and a directory
abbrev pub IsDirectoryOf : NameSpace → ℕ → Type 0
IsDirectoryOf s ino = (inode : Inode) × (s.live ino ≡ Some inode) × (inode.kind ≡ Dir)

-- a directory other than the root that no name names
pub record IsDetachedOf (s : NameSpace) (dir : ℕ) : Type 0 where
  pub directory : IsDirectoryOf s dir
  pub not_root : dir ≢ s.root
  pub unnamed : (above : ℕ) (name : List ℕ) → s.entries above name ≢ Some dir

-- names lead from a directory to an inode
abbrev pub NamesLead : NameSpace → ℕ → List (List ℕ) → ℕ → Type 0
NamesLead s from [] to = from ≡ to
NamesLead s from (name ∷ names) to = (next : ℕ) × (s.entries from name ≡ Some next) × NamesLead s next names to

-- the greatest number of keys
abbrev pub most_keys : ℕ
most_keys = 4194304

-- The root is a directory and named by nothing. Keys are directories with names, and what they name is live. A directory is named at
-- most once; names lead to it from the root, or it is detached, and has none. There are not too many keys.
pub record IsNameSpace (s : NameSpace) : Type 0 where
  pub root : IsDirectoryOf s s.root
  pub root_unnamed : (dir : ℕ) (name : List ℕ) → s.entries dir name ≢ Some s.root
  pub key : (dir : ℕ) (name : List ℕ) (ino : ℕ) → s.entries dir name ≡ Some ino → IsDirectoryOf s dir × IsName name
  pub value : (dir : ℕ) (name : List ℕ) (ino : ℕ) → s.entries dir name ≡ Some ino → s.live ino ≢ None
  pub once : (dir above : ℕ) (name other : List ℕ) (ino : ℕ) → IsDirectoryOf s ino → s.entries dir name ≡ Some ino → s.entries above other ≡ Some ino → (dir ≡ above) × (name ≡ other)
  pub tree : (dir : ℕ) → IsDirectoryOf s dir → ((path : List (List ℕ)) × NamesLead s s.root path dir) ⊎ (IsDetachedOf s dir × ((name : List ℕ) → s.entries dir name ≡ None))
  pub keys : List (ℕ × List ℕ)
  pub are_keys : (dir : ℕ) (name : List ℕ) → s.entries dir name ≢ None → Contains keys (dir, name)
  pub few : length keys ≤ most_keys
  pub inodes : List ℕ
  pub are_live : (ino : ℕ) → s.live ino ≢ None → Contains inodes ino

-- the same root, the same live inodes and the same keys with what they name
pub record AreOneSpace (s t : NameSpace) : Type 0 where
  pub root : s.root ≡ t.root
  pub live : (ino : ℕ) → s.live ino ≡ t.live ino
  pub entries : (dir : ℕ) (name : List ℕ) → s.entries dir name ≡ t.entries dir name

-- ---- what the reading commands answer of it

abbrev pub with_kind : ℕ → Option Inode → Option Place
with_kind ino None = None
with_kind ino (Some inode) = Some (record { ino = ino; kind = inode.kind })

-- what a name stands for: the inode that it names, with its kind
abbrev pub place_in : NameSpace → Option ℕ → Option Place
place_in s None = None
place_in s (Some ino) = with_kind ino (s.live ino)

abbrev pub names_of : NameSpace → NameMap
names_of s dir name = place_in s (s.entries dir name)

-- what `list` answers of an inode
abbrev pub ListsOf : NameSpace → ℕ → Reply → Type 0
ListsOf s ino reply =
    ((reply ≡ ErrorOf ENOENT) × ((s.live ino ≡ None) ⊎ IsDetachedOf s ino))
    ⊎ ((reply ≡ ErrorOf ENOTDIR) × ((inode : Inode) × (s.live ino ≡ Some inode) × (inode.kind ≢ Dir)))
    ⊎ ((lines : List Line) × (reply ≡ ListOf lines) × IsDirectoryOf s ino × ¬ IsDetachedOf s ino × AreLinesOfMap (names_of s ino) lines)

-- what `resolve` answers of a path
abbrev pub ResolvesOf : NameSpace → List ℕ → Reply → Type 0
ResolvesOf s path reply = Walks (TakesInMap (names_of s)) (record { ino = s.root; kind = Dir }) (parts_of path) (Says reply)

-- The records of all the names that name an inode, each with the generation of its directory, in order, each once.
pub record AreRecordsOf (s : NameSpace) (ino : ℕ) (records : List ParentRecord) : Type 0 where
  pub each : All (λ r. (s.entries r.dir r.name ≡ Some ino) × ((inode : Inode) × (s.live r.dir ≡ Some inode) × (inode.generation ≡ r.generation))) records
  pub complete : (dir : ℕ) (name : List ℕ) → s.entries dir name ≡ Some ino → Any (λ r. (r.dir ≡ dir) × (r.name ≡ name)) records
  pub rising : AllAdjacentBelow IsBefore records (length records)

-- what `parents` answers of an inode
abbrev pub ParentsOfInode : NameSpace → ℕ → Reply → Type 0
ParentsOfInode s ino reply =
    ((reply ≡ ErrorOf ENOENT) × (s.live ino ≡ None))
    ⊎ ((records : List ParentRecord) × (reply ≡ ParentsOf records) × (s.live ino ≢ None) × AreRecordsOf s ino records)
