-- What the reading commands `list`, `resolve` and `parents` answer of an image.
use Rattle.std.specs.Prelude.{◌≡◌, ◌≢◌, ◌⊎◌, ℕ, List, map, All, Contains, Option, Some, None, IfSome}
use Rattle.xn_bytes.specs.declared.kind.Kind.TheVariants.{Dir}
use Rattle.xn_meaning.specs.declared.errno.Errno.TheVariants.{ENOENT, ENOTDIR}
use Rattle.xn_bytes.specs.Numbers.{number_at}
use Rattle.xn_bytes.specs.Names.{IsName}
use Rattle.xn_bytes.specs.Kinds.{kind_of_mode}
use Rattle.xn_bytes.specs.Entries.{Entry}
use Rattle.xn_bytes.specs.Superblock.{Geometry}
use Rattle.xn_bytes.specs.Blocks.{block_of}
use Rattle.xn_bytes.specs.Inode.{inode_of, HasCore, HasBothForks}
use Rattle.xn_bytes.specs.Directory.{HasNames, IsListing}
use Rattle.xn_bytes.specs.DirectoryHolds.{DirHolds, EntriesStand, IsIndexed, StandsInBlocks}
use Rattle.xn_bytes.specs.LeafForms.{IsInBlocks}
use Rattle.xn_bytes.specs.DirectoryRules.{DirBreaks, DirFails, HasInode}
use Rattle.xn_meaning.specs.Replies.{ListOf, ParentsOf, ErrorOf, line_of}
use Rattle.xn_bytes.specs.Parents.{ParentRecord}
use Rattle.xn_bytes.specs.ParentRecords.{ListsParents, ParentsBreak}
use Rattle.xn_meaning.specs.Manifests.{Manifest, IsLive}
use Rattle.xn_meaning.specs.Paths.{parts_of}
use Rattle.xn_meaning.specs.NameSpace.{End, Says, Breaks, Place, NameMap, Step, Ends, Walks, part_error, step_to}

-- ---- inodes

-- a live inode of which rules 10 and 11 hold, by its bytes
pub record IsSound (g : Geometry) (m : Manifest) (inode : List ℕ) (ino : ℕ) : Type 0 where
  pub live : IsLive g m ino
  pub core : HasCore inode ino g.meta_uuid
  pub forks : HasBothForks g inode ino

-- one that is a directory's
pub record IsDirectory (g : Geometry) (m : Manifest) (inode : List ℕ) (ino : ℕ) : Type 0 where
  pub sound : IsSound g m inode ino
  pub kind : kind_of_mode (number_at 2 2 inode) ≡ Some Dir

-- one that is none
pub record IsNoDirectory (g : Geometry) (m : Manifest) (inode : List ℕ) (ino : ℕ) : Type 0 where
  pub sound : IsSound g m inode ino
  pub kind : kind_of_mode (number_at 2 2 inode) ≢ Some Dir

-- a directory without a link that is not the root: no entry names it
pub record IsDetached (g : Geometry) (m : Manifest) (inode : List ℕ) (ino : ℕ) : Type 0 where
  pub directory : IsDirectory g m inode ino
  pub not_root : ino ≢ g.root
  pub no_link : number_at 4 16 inode ≡ 0

-- the root, or a directory with a link
pub record IsAttached (g : Geometry) (m : Manifest) (inode : List ℕ) (ino : ℕ) : Type 0 where
  pub directory : IsDirectory g m inode ino
  pub place : (ino ≡ g.root) ⊎ (number_at 4 16 inode ≢ 0)

-- a live inode that breaks rule 10, or else rule 11
pub record BreaksCore (g : Geometry) (m : Manifest) (inode : List ℕ) (ino rule : ℕ) : Type 0 where
  pub live : IsLive g m ino
  pub which :
      ((rule ≡ 10) × ¬ HasCore inode ino g.meta_uuid)
      ⊎ ((rule ≡ 11) × HasCore inode ino g.meta_uuid × ¬ HasBothForks g inode ino)

-- a directory of an image
abbrev pub IsDirectoryIn : Geometry → Manifest → List ℕ → ℕ → Type 0
IsDirectoryIn g m image ino = IsDirectory g m (inode_of g image ino) ino

-- ---- list

-- the entries of a directory of which rules 10, 11, 13 and 15 to 21 hold, sorted by name
pub record Lists (g : Geometry) (image : List ℕ) (dir : ℕ) (sorted : List Entry) : Type 0 where
  pub inode : HasInode g (inode_of g image dir) dir
  pub entries : List Entry
  pub dotdot : ℕ
  pub holds : DirHolds g image dir entries dotdot
  pub names : HasNames entries
  pub listing : IsListing entries sorted

-- what is answered of an attached directory
abbrev pub ListsDirectory : Geometry → ℕ → List ℕ → End → Type 0
ListsDirectory g dir image end =
    ((rule : ℕ) × (block : ℕ) × (end ≡ Breaks dir rule block) × DirBreaks g image dir rule block)
    ⊎ ((sorted : List Entry) × (end ≡ Says (ListOf (map line_of sorted))) × Lists g image dir sorted)

-- What `list` answers of an inode. The cases shut each other out, and one of them is that of the image.
abbrev pub ListEnds : Geometry → Manifest → ℕ → List ℕ → End → Type 0
ListEnds g m ino image end =
    ((end ≡ Says (ErrorOf ENOENT)) × (¬ IsLive g m ino ⊎ IsDetached g m (inode_of g image ino) ino))
    ⊎ ((rule : ℕ) × (end ≡ Breaks ino rule 0) × BreaksCore g m (inode_of g image ino) ino rule)
    ⊎ ((end ≡ Says (ErrorOf ENOTDIR)) × IsNoDirectory g m (inode_of g image ino) ino)
    ⊎ (IsAttached g m (inode_of g image ino) ino × ListsDirectory g ino image end)

-- ---- parents

-- What `parents` answers of an inode. The cases shut each other out, and one of them is that of the image.
abbrev pub ParentsEnd : Geometry → Manifest → ℕ → List ℕ → End → Type 0
ParentsEnd g m ino image end =
    ((end ≡ Says (ErrorOf ENOENT)) × ¬ IsLive g m ino)
    ⊎ ((rule : ℕ) × (block : ℕ) × (end ≡ Breaks ino rule block) × IsLive g m ino × ParentsBreak g image ino rule block)
    ⊎ ((sorted : List ParentRecord) × (end ≡ Says (ParentsOf sorted)) × IsLive g m ino × ListsParents g image ino sorted)

-- ---- resolve

-- Entries of which one has the name, or none has.
abbrev pub HaveName : List ℕ → List Entry → Option Place → Type 0
HaveName name entries None = All (λ entry. entry.name ≢ name) entries
HaveName name entries (Some place) =
    (position : ℕ) × Contains entries (record { name = name; ino = place.ino; kind = place.kind; position = position })

-- In short and block form what a name stands for is what the entries say that stand there, whose form and first block are
-- right (rules 15 to 17), where its leaf entries are sorted and those of the entries. What is found is always the place of
-- one of these entries.
pub record RestsOnAll (g : Geometry) (image : List ℕ) (dir : ℕ) (name : List ℕ) (found : Option Place) : Type 0 where
  pub entries : List Entry
  pub dotdot : ℕ
  pub stand : EntriesStand g image dir entries dotdot
  pub there : IfSome found (λ place. HaveName name entries (Some place))
  pub indexed : IsIndexed g image dir → HaveName name entries found

-- In leaf and node form what is found is the place of an entry that stands in a data block (rules 15 and 17).
abbrev pub RestsOnOne : Geometry → List ℕ → ℕ → List ℕ → Option Place → Type 0
RestsOnOne g image dir name found =
    IsInBlocks (inode_of g image dir)
    × IfSome found (λ place. (position : ℕ) × StandsInBlocks g dir (inode_of g image dir) (block_of g image) (record { name = name; ino = place.ino; kind = place.kind; position = position }))

-- What a name stands for in a directory of which rules 10, 11 and 13 hold. Where the directory holds entries, it is what they
-- say.
pub record StandsFor (g : Geometry) (image : List ℕ) (dir : ℕ) (name : List ℕ) (found : Option Place) : Type 0 where
  pub inode : HasInode g (inode_of g image dir) dir
  pub rests : RestsOnAll g image dir name found ⊎ RestsOnOne g image dir name found
  pub among : (held : List Entry) (parent : ℕ) → DirHolds g image dir held parent → HaveName name held found

-- the place is that of no directory: not by the entry that led there, or not by its inode
abbrev pub HasNoParts : Geometry → Manifest → List ℕ → Place → Type 0
HasNoParts g m image here = (here.kind ≢ Dir) ⊎ ((here.kind ≡ Dir) × (¬ IsLive g m here.ino ⊎ IsNoDirectory g m (inode_of g image here.ino) here.ino))

-- what comes of a name in a directory
abbrev pub TakesName : Geometry → List ℕ → ℕ → List ℕ → Step → Type 0
TakesName g image dir name step =
    ((rule : ℕ) × (block : ℕ) × (step ≡ Ends (Breaks dir rule block)) × DirFails g image dir rule block)
    ⊎ ((found : Option Place) × (step ≡ step_to found) × StandsFor g image dir name found)

-- what comes of a part at a directory
abbrev pub TakesPart : Geometry → List ℕ → ℕ → List ℕ → Step → Type 0
TakesPart g image dir part step =
    (¬ IsName part × (step ≡ Ends (Says (ErrorOf (part_error part))))) ⊎ (IsName part × TakesName g image dir part step)

-- One part of a path over an image: the place is that of a directory of which rules 10 and 11 hold, and the part is a name
-- that stands for something there.
abbrev pub TakesInImage : Geometry → Manifest → List ℕ → Place → List ℕ → Step → Type 0
TakesInImage g m image here part step =
    ((step ≡ Ends (Says (ErrorOf ENOTDIR))) × HasNoParts g m image here)
    ⊎ ((rule : ℕ) × (step ≡ Ends (Breaks here.ino rule 0)) × (here.kind ≡ Dir) × BreaksCore g m (inode_of g image here.ino) here.ino rule)
    ⊎ ((here.kind ≡ Dir) × IsDirectoryIn g m image here.ino × TakesPart g image here.ino part step)

-- where every walk begins
abbrev pub root_place : Geometry → Place
root_place g = record { ino = g.root; kind = Dir }

-- What `resolve` answers of a path: rule 5 where the root is not live, else the end of the walk of its parts from the root.
abbrev pub ResolveEnds : Geometry → Manifest → List ℕ → List ℕ → End → Type 0
ResolveEnds g m path image end =
    ((end ≡ Breaks 0 5 0) × ¬ IsLive g m g.root)
    ⊎ (IsLive g m g.root × Walks (TakesInImage g m image) (root_place g) (parts_of path) end)

-- ---- the map of an image

-- An image whose root is a directory, as is each inode that an entry names as one, and whose directories hold entries with
-- names; and the map of these names.
pub record HasMap (g : Geometry) (m : Manifest) (image : List ℕ) (names : NameMap) : Type 0 where
  pub root : IsDirectoryIn g m image g.root
  pub named : (dir : ℕ) (name : List ℕ) (place : Place) → names dir name ≡ Some place → place.kind ≡ Dir → IsDirectoryIn g m image place.ino
  pub holds : (dir : ℕ) → IsDirectoryIn g m image dir → (entries : List Entry) × (dotdot : ℕ) × DirHolds g image dir entries dotdot × HasNames entries
  pub says : (dir : ℕ) → IsDirectoryIn g m image dir → (entries : List Entry) (dotdot : ℕ) → DirHolds g image dir entries dotdot → (name : List ℕ) → HaveName name entries (names dir name)
