-- Of each directory of an image there is one verdict: what it holds is one list of entries and one dotdot, which rule it breaks
-- first is one rule, and one that holds entries with names breaks none.
use Rattle.std.specs.Prelude.{◌≡◌, ℕ, List}
use Rattle.xn_bytes.specs.Superblock.{Geometry}
use Rattle.xn_bytes.specs.Inode.{inode_of}
use Rattle.xn_bytes.specs.Entries.{Entry}
use Rattle.xn_bytes.specs.Directory.{HasNames}
use Rattle.xn_bytes.specs.DirectoryHolds.{DirHolds, HasDotdot}
use Rattle.xn_bytes.specs.DirectoryRules.{DirBreaks, HasInode}

-- a directory holds one list of entries, and one dotdot
abbrev pub HoldsOneList : Type 0
HoldsOneList =
    (g : Geometry) (image : List ℕ) (dir : ℕ) (a b : List Entry) (p q : ℕ)
    → DirHolds g image dir a p → DirHolds g image dir b q → (a ≡ b) × (p ≡ q)

-- the dotdot that is read whatever the leaf entries say is the one that the directory holds
abbrev pub IsOneDotdot : Type 0
IsOneDotdot =
    (g : Geometry) (image : List ℕ) (dir : ℕ) (entries : List Entry) (p q : ℕ)
    → HasDotdot g image dir p → DirHolds g image dir entries q → p ≡ q

-- the rule that a directory breaks first is one, and so is the block that it names
abbrev pub BreaksOneRule : Type 0
BreaksOneRule =
    (g : Geometry) (image : List ℕ) (dir r s b c : ℕ)
    → DirBreaks g image dir r b → DirBreaks g image dir s c → (r ≡ s) × (b ≡ c)

-- A directory of which the rules of its inode hold, and which holds entries each of which has a name of its own, breaks no
-- rule.
abbrev pub HoldsOrBreaks : Type 0
HoldsOrBreaks =
    (g : Geometry) (image : List ℕ) (dir : ℕ) (entries : List Entry) (dotdot rule block : ℕ)
    → HasInode g (inode_of g image dir) dir → DirHolds g image dir entries dotdot → HasNames entries → ¬ DirBreaks g image dir rule block
