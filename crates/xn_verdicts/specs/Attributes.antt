-- Of the attributes of each inode of an image, and of its parent records, there is one verdict: they are one list, the rule that
-- is broken first is one, and an inode that has them breaks none.
use Rattle.std.specs.Prelude.{◌≡◌, ℕ, List}
use Rattle.xn_bytes.specs.Superblock.{Geometry}
use Rattle.xn_bytes.specs.Inode.{inode_of}
use Rattle.xn_bytes.specs.declared.attribute.Attribute.{Attribute}
use Rattle.xn_bytes.specs.Parents.{ParentRecord}
use Rattle.xn_bytes.specs.AttributeForks.{AttrHolds, AttrBreaks, HasOwnInode}
use Rattle.xn_bytes.specs.ParentRecords.{IsParentsOf, ParentsBreak, ListsParents}

-- ---- attributes

-- an inode has one list of attributes
abbrev pub HasOneAttributeList : Type 0
HasOneAttributeList =
    (g : Geometry) (image : List ℕ) (ino : ℕ) (a b : List Attribute)
    → AttrHolds g image ino a → AttrHolds g image ino b → a ≡ b

-- the rule that an inode's attributes break first is one, and so is the block that it names
abbrev pub AttributesBreakOneRule : Type 0
AttributesBreakOneRule =
    (g : Geometry) (image : List ℕ) (ino r s b c : ℕ)
    → AttrBreaks g image ino r b → AttrBreaks g image ino s c → (r ≡ s) × (b ≡ c)

-- an inode of which its own rules hold, and which has attributes, breaks no rule of attributes
abbrev pub HasAttributesOrBreaks : Type 0
HasAttributesOrBreaks =
    (g : Geometry) (image : List ℕ) (ino : ℕ) (attributes : List Attribute) (rule block : ℕ)
    → HasOwnInode g (inode_of g image ino) ino → AttrHolds g image ino attributes → ¬ AttrBreaks g image ino rule block

-- ---- parent records

-- an inode has one list of parent records
abbrev pub HasOneParentList : Type 0
HasOneParentList =
    (g : Geometry) (image : List ℕ) (ino : ℕ) (a b : List ParentRecord)
    → IsParentsOf g image ino a → IsParentsOf g image ino b → a ≡ b

-- the rule that an inode's parent records break first is one, and so is the block that it names
abbrev pub ParentsBreakOneRule : Type 0
ParentsBreakOneRule =
    (g : Geometry) (image : List ℕ) (ino r s b c : ℕ)
    → ParentsBreak g image ino r b → ParentsBreak g image ino s c → (r ≡ s) × (b ≡ c)

-- an inode of which its own rules hold, and which has parent records, breaks no rule of them
abbrev pub HasParentsOrBreaks : Type 0
HasParentsOrBreaks =
    (g : Geometry) (image : List ℕ) (ino : ℕ) (records : List ParentRecord) (rule block : ℕ)
    → HasOwnInode g (inode_of g image ino) ino → IsParentsOf g image ino records → ¬ ParentsBreak g image ino rule block

-- the parent records of an inode are listed in one order
abbrev pub HasOneParentOrder : Type 0
HasOneParentOrder =
    (g : Geometry) (image : List ℕ) (ino : ℕ) (a b : List ParentRecord)
    → ListsParents g image ino a → ListsParents g image ino b → a ≡ b
