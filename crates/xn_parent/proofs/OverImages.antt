-- The parents of an inode over a store's image, where it is told.
use Rattle.std.proofs.Common.{ℕ, List, Option, Some, None, inl, inr}
use Rattle.std.specs.Prelude.{IfSome}
use Rattle.std.proofs.lemmas.Option.{IfSome_then}
use Rattle.xn_bytes.specs.Superblock.{Geometry}
use Rattle.xn_bytes.specs.Inode.{inode_of}
use Rattle.xn_bytes.specs.declared.attribute.Attribute.{Attribute}
use Rattle.xn_bytes.specs.AttributeForks.{AttrHolds, HasOwnInode}
use Rattle.xn_bytes.specs.ParentRecords.{HasRecords, ParentsBreak}
use Rattle.xn_inode.specs.declared.fork_fault.ForkFault.{ForkFault}
use Rattle.xn_inode.specs.declared.fork_fault.ForkFault.TheVariants.{Read, Memory, Broken}
use Rattle.xn_inode.specs.declared.store.Store.{Ghosts}
use Rattle.xn_inode.specs.Faults.{IsRule}
use Rattle.xn_attr.specs.Faults.{IsAttrFault}
use Rattle.xn_parent.specs.Faults.{IsParentsFault}

-- the inode of an image has these attributes, and rules 10, 11 and 13 hold of it
pub record HasThese (g : Geometry) (ino : ℕ) (attributes : List Attribute) (image : Option (List ℕ)) : Type 0 where
  pub holds : IfSome image (λ x. AttrHolds g x ino attributes)
  pub inode : IfSome image (λ x. HasOwnInode g (inode_of g x ino) ino)

-- what the attributes themselves break
pub fault_of_attributes : {S : Type 0} (store : Ghosts S) (ino : ℕ) (old new : S) (fault : ForkFault)
    → IsAttrFault store ino old new fault → IsParentsFault store ino old new fault
fault_of_attributes store ino old new Read fails = fails
fault_of_attributes store ino old new Memory fails = tt
fault_of_attributes store ino old new (Broken rule block) fails = IfSome_then (store.image old) fails (λ x breaks. inl breaks)

breaks_records : (g : Geometry) (ino rule block : ℕ) (attributes : List Attribute) (image : Option (List ℕ)) → HasThese g ino attributes image → IsRule 26 (HasRecords attributes) (Broken rule block)
    → IfSome image (λ x. ParentsBreak g x ino rule block)
breaks_records g ino rule block attributes None these broken = tt
breaks_records g ino rule block attributes (Some x) these broken = inr (broken.0, broken.1, these.inode, (attributes, these.holds, broken.2))

-- what the records among them break
pub fault_of_records : {S : Type 0} (store : Ghosts S) (ino : ℕ) (old new : S) (attributes : List Attribute) → HasThese (store.shape old) ino attributes (store.image old) → (fault : ForkFault)
    → IsRule 26 (HasRecords attributes) fault → IsParentsFault store ino old new fault
fault_of_records store ino old new attributes these Read none = absurd none
fault_of_records store ino old new attributes these Memory free = tt
fault_of_records store ino old new attributes these (Broken rule block) broken = breaks_records (store.shape old) ino rule block attributes (store.image old) these broken
