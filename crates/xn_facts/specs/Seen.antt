-- What is found of an inode's blocks, and what of them is broken.
use Rattle.std.specs.Prelude.{◌≡◌, ℕ, List, map, Option, None, MatchOption}
use Rattle.std.specs.Global.{Vec}
use Rattle.xn_bytes.specs.Superblock.{Geometry}
use Rattle.xn_bytes.specs.Inode.{inode_of}
use Rattle.xn_bytes.specs.Entries.{Entry}
use Rattle.xn_bytes.specs.DirectoryRules.{DirBreaks}
use Rattle.xn_bytes.specs.Parents.{ParentRecord}
use Rattle.xn_bytes.specs.AttributeForks.{HasOwnInode}
use Rattle.xn_bytes.specs.ParentRecords.{IsParentsOf, ListsParents, ParentsBreak}
use Rattle.xn_items.specs.declared.parent.ParentRec.{ParentRec}
use Rattle.xn_items.specs.Viewed.{record_of}
use Rattle.xn_rules.specs.InodeRules.{IsOfDirectory}
use Rattle.xn_facts.specs.declared.facts.Broken.{Broken}
use Rattle.xn_facts.specs.declared.facts.Contents.{Contents}
use Rattle.xn_facts.specs.Facts.{AreContents, IsFirstOf, IsHeld}

-- the rules on directories
abbrev pub BreaksDirectory : Geometry → List ℕ → ℕ → ℕ → ℕ → Type 0
BreaksDirectory g image ino rule block = IsOfDirectory (inode_of g image ino) × DirBreaks g image ino rule block

-- What the inode holds as a directory, if it holds anything, and which of the rules on directories it breaks first: one of the two
-- where it is a directory.
pub record IsSeenDirectory (g : Geometry) (image : List ℕ) (ino : ℕ) (found : Option Contents) (broken : Option Broken) : Type 0 where
  pub contents : MatchOption found ((entries : List Entry) (dotdot : ℕ) → ¬ IsHeld g image ino entries dotdot) (AreContents g image ino)
  pub first : IsFirstOf (BreaksDirectory g image ino) broken
  pub holds : broken ≡ None → IsOfDirectory (inode_of g image ino)
      → (entries : List Entry) × (dotdot : ℕ) × IsHeld g image ino entries dotdot

-- which parent records the inode has, in order, or which of the rules on them it breaks first
pub record AreSeenParents (g : Geometry) (image : List ℕ) (ino : ℕ) (found : Option (Vec ParentRec)) (broken : Option Broken) : Type 0 where
  pub parents : MatchOption found
      ((records : List ParentRecord) → HasOwnInode g (inode_of g image ino) ino → ¬ IsParentsOf g image ino records)
      (λ parents. ListsParents g image ino (map record_of parents.items))
  pub first : IsFirstOf (ParentsBreak g image ino) broken
  pub holds : broken ≡ None → (sorted : List ParentRecord) × ListsParents g image ino sorted
