-- The parent records of an inode are one list, and the rule that it breaks is one, as is the block that is named; one that has
-- its parent records breaks none.
use Rattle.std.proofs.Common.{◌≡◌, ℕ, List, sym, ap, subst, ◌∙◌, inl, inr}
use Rattle.std.specs.Prelude.{map}
use Rattle.xn_bytes.specs.Superblock.{Geometry}
use Rattle.xn_bytes.specs.Inode.{inode_of}
use Rattle.xn_bytes.specs.declared.attribute.Attribute.{Attribute}
use Rattle.xn_bytes.specs.Parents.{ParentRecord}
use Rattle.xn_bytes.specs.AttributeForks.{HasOwnInode}
use Rattle.xn_bytes.specs.ParentRecords.{parents_among, record_in, HasRecords, IsParentsOf, ParentsBreak}
use Rattle.xn_verdicts.proofs.OneFork.{IsOneFault, one_attributes, attributes_one_rule, attributes_or_break}

pub one_parents : (g : Geometry) (image : List ℕ) (ino : ℕ) (a b : List ParentRecord) → IsParentsOf g image ino a → IsParentsOf g image ino b → a ≡ b
one_parents g image ino a b one other =
    one.are
    ∙ ap (λ (attributes : List Attribute). map record_in (parents_among attributes)) (one_attributes g image ino one.attributes other.attributes one.holds other.holds)
    ∙ sym other.are

pub parents_one_rule : (g : Geometry) (image : List ℕ) (ino r s b c : ℕ) → ParentsBreak g image ino r b → ParentsBreak g image ino s c → IsOneFault r s b c
parents_one_rule g image ino r s b c (inl one) (inl other) = attributes_one_rule g image ino r s b c one other
parents_one_rule g image ino r s b c (inl one) (inr other) = absurd (attributes_or_break g image ino other.3.0 r b other.2 other.3.1 one)
parents_one_rule g image ino r s b c (inr one) (inl other) = absurd (attributes_or_break g image ino one.3.0 s c one.2 one.3.1 other)
parents_one_rule g image ino r s b c (inr one) (inr other) = (one.0 ∙ sym other.0, one.1 ∙ sym other.1)

pub parents_or_break : (g : Geometry) (image : List ℕ) (ino : ℕ) (records : List ParentRecord) (rule block : ℕ) → HasOwnInode g (inode_of g image ino) ino → IsParentsOf g image ino records → ParentsBreak g image ino rule block → ⊥
parents_or_break g image ino records rule block own parents (inl breaks) = attributes_or_break g image ino parents.attributes rule block own parents.holds breaks
parents_or_break g image ino records rule block own parents (inr breaks) =
    let same = one_attributes g image ino parents.attributes breaks.3.0 parents.holds breaks.3.1 in
    breaks.3.2 (subst HasRecords same parents.right)
