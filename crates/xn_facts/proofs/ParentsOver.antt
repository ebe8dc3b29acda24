-- Which rule on its parent records an inode breaks, by a fault of reading them or of its core.
use Rattle.std.proofs.Common.{◌≡◌, ℕ, List, Option, Some, None, Ok, Err, subst, inl, inr}
use Rattle.std.specs.Prelude.{IfSome}
use Rattle.xn_bytes.specs.Superblock.{Geometry, OrElse}
use Rattle.xn_bytes.specs.Inode.{HasBothForks, HasCore, inode_of}
use Rattle.xn_bytes.specs.ParentRecords.{ParentsBreak}
use Rattle.xn_inode.specs.declared.fork_fault.ForkFault.{ForkFault}
use Rattle.xn_inode.specs.declared.fork_fault.ForkFault.TheVariants.{Read, Memory, Broken}
use Rattle.xn_inode.specs.declared.store.Store.{Ghosts}
use Rattle.xn_parent.specs.Faults.{IsParentsFault}
use Rattle.xn_facts.specs.declared.facts.Broken as verdict
use Rattle.xn_facts.specs.Seen.{AreSeenParents}
use Rattle.xn_facts.specs.Verdicts.{broken_in}
use Rattle.xn_facts.proofs.Seeing.{parents_over}

-- the rule that a fault of the records names
abbrev BreaksOver : Geometry → Option (List ℕ) → ℕ → verdict.Broken → Type 0
BreaksOver g image ino broken = IfSome image (λ x. ParentsBreak g x ino broken.rule broken.block)

pub records_broken_over : {S : Type 0} (store : Ghosts S) (ino : ℕ) (old new : S) (fault : ForkFault) (broken : verdict.Broken) → Ok broken ≡ broken_in fault → IsParentsFault store ino old new fault
    → IfSome (store.image old) (λ x. ParentsBreak (store.shape old) x ino broken.rule broken.block)
records_broken_over store ino old new Read broken is fault = absurd cc
records_broken_over store ino old new Memory broken is fault = absurd cc
records_broken_over store ino old new (Broken rule block) broken is fault =
    (let same : record { rule = rule; block = block } ≡ broken = cc in subst (BreaksOver (store.shape old) (store.image old) ino) same fault)

-- the rule that a core breaks
core_breaks : (g : Geometry) (image : List ℕ) (ino : ℕ) (inode : List ℕ) (rule block : ℕ) → inode ≡ inode_of g image ino → block ≡ 0
    → OrElse rule 10 (HasCore inode ino g.meta_uuid) (OrElse rule 11 (HasBothForks g inode ino) ⊥) → ParentsBreak g image ino rule block
core_breaks g image ino inode rule block same zero (inl (is, not)) = inl (inl (is, zero, rw same at not))
core_breaks g image ino inode rule block same zero (inr (core, inl (is, not))) = inl (inr (rw same at core, inl (is, zero, rw same at not)))
core_breaks g image ino inode rule block same zero (inr (core, inr (forks, none))) = absurd none

breaks_over : (g : Geometry) (image : Option (List ℕ)) (ino : ℕ) (inode : List ℕ) (broken : verdict.Broken) (rule : ℕ) → IfSome image (λ x. inode ≡ inode_of g x ino) → broken.rule ≡ rule → broken.block ≡ 0
    → OrElse rule 10 (HasCore inode ino g.meta_uuid) (OrElse rule 11 (HasBothForks g inode ino) ⊥) → BreaksOver g image ino broken
breaks_over g None ino inode broken rule same is zero breaks = tt
breaks_over g (Some x) ino inode broken rule same is zero breaks = core_breaks g x ino inode broken.rule broken.block same zero (rw is breaks)

pub core_breaks_over : (g : Geometry) (image : Option (List ℕ)) (ino : ℕ) (inode : List ℕ) (broken : verdict.Broken) (rule : ℕ) → IfSome image (λ x. inode ≡ inode_of g x ino) → broken.rule ≡ rule → broken.block ≡ 0
    → OrElse rule 10 (HasCore inode ino g.meta_uuid) (OrElse rule 11 (HasBothForks g inode ino) ⊥) → IfSome image (λ x. AreSeenParents g x ino None (Some broken))
core_breaks_over g image ino inode broken rule same is zero breaks =
    parents_over g image ino (Err broken) (breaks_over g image ino inode broken rule same is zero breaks)
