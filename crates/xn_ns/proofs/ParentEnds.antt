-- How `parents` ends: with the parents that were read, or with what the inode breaks.
use Rattle.std.proofs.Common.{◌≡◌, ◌∙◌, ℕ, List, [], ◌∷◌, map, Option, Some, None, Ok, Err, refl, ap, inl, inr}
use Rattle.std.specs.Prelude.{IfSome}
use Rattle.xn_bytes.specs.Superblock.{Geometry}
use Rattle.xn_meaning.specs.Manifests.{Manifest, IsLive}
use Rattle.xn_bytes.specs.Parents.{ParentRecord}
use Rattle.xn_bytes.specs.ParentRecords.{ParentsBreak}
use Rattle.xn_meaning.specs.NameSpace.{Says}
use Rattle.xn_meaning.specs.Replies.{ParentsOf}
use Rattle.xn_bytes.specs.ParentRecords.{ListsParents}
use Rattle.xn_meaning.specs.Reading.{ParentsEnd}
use Rattle.xn_inode.specs.declared.fork_fault.ForkFault.{ForkFault}
use Rattle.xn_inode.specs.declared.fork_fault.ForkFault.TheVariants.{Read, Memory, Broken}
use Rattle.xn_inode.specs.declared.store.Store.{Ghosts}
use Rattle.xn_items.specs.declared.parent.ParentRec.{ParentRec}
use Rattle.xn_items.specs.Viewed.{record_of}
use Rattle.xn_parent.specs.Faults.{IsParentsFault}
use Rattle.xn_text.specs.declared.line.ParentLine.{ParentLine}
use Rattle.xn_text.specs.declared.reply.Reply.TheVariants as replies
use Rattle.xn_text.specs.Viewed.{parent_of}
use Rattle.xn_ns.specs.Ends.{Answered, see_fault_in}
use Rattle.xn_ns.specs.Lines.{parent_line}

-- the lines say what the parents are
lines_say : (parents : List ParentRec) → map parent_of (map parent_line parents) ≡ map record_of parents
lines_say [] = refl
lines_say (parent ∷ parents) = ap (λ (rest : List ParentRecord). record_of parent ∷ rest) (lines_say parents)

pub parents_listed : (g : Geometry) (m : Manifest) (ino : ℕ) (image : Option (List ℕ)) (before now : ℕ) (parents : List ParentRec) (lines : List ParentLine) → IsLive g m ino → lines ≡ map parent_line parents
    → IfSome image (λ x. ListsParents g x ino (map record_of parents)) → Answered (ParentsEnd g m ino) image before now (Ok (replies.Parents lines))
parents_listed g m ino None before now parents lines live are listed = record { ends = tt; cause = tt }
parents_listed g m ino (Some x) before now parents lines live are listed = record {
  ends = inr (inr (map record_of parents, ap (λ (records : List ParentRecord). Says (ParentsOf records)) (ap (map parent_of) are ∙ lines_say parents), live, listed));
  cause = tt;
}

broken : (g : Geometry) (m : Manifest) (ino rule block : ℕ) (image : Option (List ℕ)) (before now : ℕ) → IsLive g m ino → IfSome image (λ x. ParentsBreak g x ino rule block)
    → Answered (ParentsEnd g m ino) image before now (Err (see_fault_in ino (Broken rule block)))
broken g m ino rule block None before now live breaks = record { ends = tt; cause = λ read. absurd cc }
broken g m ino rule block (Some x) before now live breaks = record { ends = inr (inl (rule, block, refl, live, breaks)); cause = λ read. absurd cc }

-- a fault of the attributes or of the records among them
pub parents_fault : {S : Type 0} (store : Ghosts S) (m : Manifest) (ino : ℕ) (old new : S) (fault : ForkFault) → IsLive (store.shape old) m ino → IsParentsFault store ino old new fault
    → Answered (ParentsEnd (store.shape old) m ino) (store.image old) (store.faults old) (store.faults new) (Err (see_fault_in ino fault))
parents_fault store m ino old new Read live rose = record { ends = tt; cause = λ read. rose }
parents_fault store m ino old new Memory live free = record { ends = tt; cause = λ read. absurd cc }
parents_fault store m ino old new (Broken rule block) live breaks = broken (store.shape old) m ino rule block (store.image old) (store.faults old) (store.faults new) live breaks
