-- What is kept of an inode, over an image.
use Rattle.std.specs.Prelude.{◌≡◌, ◌≢◌, ◌⊎◌, ◌↔◌, ℕ, ◌≤◌, IsTrue, List, ◌++◌, map, Option, Some, None, MatchOption}
use Rattle.xn_bytes.specs.Superblock.{Geometry}
use Rattle.xn_bytes.specs.Numbers.{number_at}
use Rattle.xn_bytes.specs.Kinds.{kind_of_mode}
use Rattle.xn_bytes.specs.DirectoryForms.{data_runs_of}
use Rattle.xn_bytes.specs.Inode.{inode_of, extents_format, HasCore, HasBothForks}
use Rattle.xn_bytes.specs.Extents.{Run as Mapped, mapped}
use Rattle.xn_bytes.specs.Entries.{Entry}
use Rattle.xn_bytes.specs.Directory.{HasNames}
use Rattle.xn_bytes.specs.DirectoryHolds.{DirHolds}
use Rattle.xn_bytes.specs.DirectoryRules.{HasInode}
use Rattle.xn_bytes.specs.Parents.{ParentRecord}
use Rattle.xn_bytes.specs.AttributeForks.{HasOwnInode}
use Rattle.xn_bytes.specs.ParentRecords.{IsParentsOf, ListsParents}
use Rattle.xn_rules.specs.InodeRules.{IsOfDirectory, HasBlockCount, BreaksAlone, data_fork_runs, attr_fork_runs}
use Rattle.xn_rules.specs.NameRules.{HasDot}
use Rattle.xn_rules.specs.Sound.{AreRunsOf}
use Rattle.xn_dir.specs.Listings.{entry_of}
use Rattle.xn_items.specs.Viewed.{record_of}
use Rattle.xn_facts.specs.declared.facts.Broken.{Broken}
use Rattle.xn_facts.specs.declared.facts.Run.{Run}
use Rattle.xn_facts.specs.declared.facts.Contents.{Contents}
use Rattle.xn_facts.specs.declared.facts.Known.{Known}
use Rattle.xn_facts.specs.declared.facts.Node.{Node}
use Rattle.xn_facts.specs.declared.facts.Facts.{Facts}

abbrev pub mapped_of : Run → Mapped
mapped_of run = record { file_block = run.file_block; block = run.block; count = run.count }

-- ---- what a directory holds

-- a directory of which rules 10, 11, 13 and 15 to 20 hold, and of 21 the names
pub record IsHeld (g : Geometry) (image : List ℕ) (dir : ℕ) (entries : List Entry) (dotdot : ℕ) : Type 0 where
  pub directory : IsOfDirectory (inode_of g image dir)
  pub inode : HasInode g (inode_of g image dir) dir
  pub holds : DirHolds g image dir entries dotdot
  pub names : HasNames entries

pub record AreContents (g : Geometry) (image : List ℕ) (dir : ℕ) (contents : Contents) : Type 0 where
  pub held : IsHeld g image dir (map entry_of contents.entries.items) contents.dotdot
  pub dot : IsTrue contents.has_dot ↔ HasDot g image dir

-- the first data block of a directory, where it has blocks
abbrev pub IsFirstBlock : List ℕ → Option ℕ → Type 0
IsFirstBlock inode None = (number_at 1 5 inode ≢ extents_format) ⊎ (mapped (data_runs_of inode) 0 ≡ None)
IsFirstBlock inode (Some block) = (number_at 1 5 inode ≡ extents_format) × (mapped (data_runs_of inode) 0 ≡ Some block)

-- ---- runs

-- the runs of which rule 9 speaks of an inode of which rules 10, 11 and 13 hold
abbrev pub AreForkRuns : List ℕ → List Mapped → Type 0
AreForkRuns inode runs =
    (IsOfDirectory inode × (runs ≡ data_fork_runs inode ++ attr_fork_runs inode)) ⊎ (¬ IsOfDirectory inode × (runs ≡ attr_fork_runs inode))

-- ---- what is kept

-- rules 10 and 11 hold, and the inode says this
pub record IsKnown (g : Geometry) (image : List ℕ) (ino : ℕ) (known : Known) : Type 0 where
  pub core : HasCore (inode_of g image ino) ino g.meta_uuid
  pub forks : HasBothForks g (inode_of g image ino) ino
  pub kind : kind_of_mode (number_at 2 2 (inode_of g image ino)) ≡ Some known.kind
  pub nlink : number_at 4 16 (inode_of g image ino) ≡ known.nlink
  pub generation : number_at 4 92 (inode_of g image ino) ≡ known.generation

-- rule 10 or 11 is broken
abbrev pub IsUnknown : Geometry → List ℕ → ℕ → Type 0
IsUnknown g image ino = ¬ (HasCore (inode_of g image ino) ino g.meta_uuid × HasBothForks g (inode_of g image ino) ino)

-- a rule that is broken, of some the first
abbrev pub IsFirst : (ℕ → ℕ → Type 0) → Broken → Type 0
IsFirst Breaks first = Breaks first.rule first.block × ((rule block : ℕ) → Breaks rule block → first.rule ≤ rule)

-- the first of some rules, if one is broken
abbrev pub IsFirstOf : (ℕ → ℕ → Type 0) → Option Broken → Type 0
IsFirstOf Breaks broken = MatchOption broken ((rule block : ℕ) → ¬ Breaks rule block) (IsFirst Breaks)

-- an inode of which the rules on one inode and its blocks hold
pub record StandsAlone (g : Geometry) (image : List ℕ) (ino : ℕ) : Type 0 where
  pub own : HasOwnInode g (inode_of g image ino) ino
  pub blocks : IsOfDirectory (inode_of g image ino) → HasBlockCount (inode_of g image ino)
  pub directory : IsOfDirectory (inode_of g image ino) → (entries : List Entry) × (dotdot : ℕ) × IsHeld g image ino entries dotdot
  pub parents : (records : List ParentRecord) × IsParentsOf g image ino records

pub record NodeHolds (g : Geometry) (image : List ℕ) (node : Node) : Type 0 where
  pub directory : IsTrue node.is_directory ↔ IsOfDirectory (inode_of g image node.ino)
  pub known : MatchOption node.known (IsUnknown g image node.ino) (IsKnown g image node.ino)
  pub parents : MatchOption node.parents ((records : List ParentRecord) → HasOwnInode g (inode_of g image node.ino) node.ino → ¬ IsParentsOf g image node.ino records) (λ parents. ListsParents g image node.ino (map record_of parents.items))
  pub broken : IsFirstOf (BreaksAlone g image node.ino) node.broken
  pub stands : node.broken ≡ None → StandsAlone g image node.ino

pub record FactsHold (g : Geometry) (image : List ℕ) (facts : Facts) : Type 0 where
  pub node : NodeHolds g image facts.node
  pub contents : MatchOption facts.contents ((entries : List Entry) (dotdot : ℕ) → ¬ IsHeld g image facts.node.ino entries dotdot) (AreContents g image facts.node.ino)
  pub runs : AreRunsOf g image facts.node.ino (map mapped_of facts.runs.items)
