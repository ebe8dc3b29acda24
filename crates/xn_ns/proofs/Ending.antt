-- How `list` ends where the inode is a directory with a place in the tree.
use Rattle.std.proofs.Common.{ℕ, ◌≤◌, List, Option, Some, None, refl, arith, inl, inr}
use Rattle.std.specs.Prelude.{IfSome, Result, Err}
use Rattle.std.proofs.lemmas.Result.{IfErr-weaker}
use Rattle.xn_bytes.specs.Causes.{Rose}
use Rattle.xn_bytes.specs.Superblock.{Geometry}
use Rattle.xn_bytes.specs.Inode.{inode_of}
use Rattle.xn_bytes.specs.DirectoryRules.{BreaksBlocks}
use Rattle.xn_meaning.specs.Manifests.{Manifest}
use Rattle.xn_meaning.specs.NameSpace.{End}
use Rattle.xn_meaning.specs.Reading.{ListEnds, ListsDirectory, IsAttached}
use Rattle.xn_inode.specs.declared.fork_fault.ForkFault.{ForkFault}
use Rattle.xn_inode.specs.declared.fork_fault.ForkFault.TheVariants.{Read, Memory, Broken}
use Rattle.xn_dir.specs.Faults.{IsFaultOver}
use Rattle.xn_text.specs.declared.reply.Reply.{Reply}
use Rattle.xn_ns.specs.declared.fault.SeeFault.{SeeFault}
use Rattle.xn_ns.specs.Ends.{Answered, see_fault_in, end_of}

-- a fault of the directory
pub directory_fault : (g : Geometry) (dir : ℕ) (image : Option (List ℕ)) (before now : ℕ) (fault : ForkFault) → IsFaultOver BreaksBlocks g dir image before now fault → Answered (ListsDirectory g dir) image before now (Err (see_fault_in dir fault))
directory_fault g dir image before now Read rose = record { ends = tt; cause = λ read. rose }
directory_fault g dir image before now Memory free = record { ends = tt; cause = λ read. absurd cc }
directory_fault g dir None before now (Broken rule block) broken = record { ends = tt; cause = λ read. absurd cc }
directory_fault g dir (Some x) before now (Broken rule block) broken = record { ends = inl (rule, block, refl, broken); cause = λ read. absurd cc }

-- the end of the directory's list is that of the inode's
attached_end : (g : Geometry) (m : Manifest) (ino : ℕ) (image : Option (List ℕ)) (end : Option End) → IfSome image (λ x. IsAttached g m (inode_of g x ino) ino)
    → IfSome end (λ e. IfSome image (λ x. ListsDirectory g ino x e)) → IfSome end (λ e. IfSome image (λ x. ListEnds g m ino x e))
attached_end g m ino image None attached ends = tt
attached_end g m ino None (Some e) attached ends = tt
attached_end g m ino (Some x) (Some e) attached ends = inr (inr (inr (attached, ends)))

-- where the count of faults rose later, it rose from before on
pub rose_earlier : (before between now : ℕ) → before ≤ between → Rose between now → Rose before now
rose_earlier before between now later rose = omega arith

pub attached_list : (g : Geometry) (m : Manifest) (ino : ℕ) (image : Option (List ℕ)) (before between now : ℕ) (result : Result Reply SeeFault) → IfSome image (λ x. IsAttached g m (inode_of g x ino) ino) → before ≤ between
    → Answered (ListsDirectory g ino) image between now result → Answered (ListEnds g m ino) image before now result
attached_list g m ino image before between now result attached later answered = record {
  ends = attached_end g m ino image (end_of result) attached answered.ends;
  cause = IfErr-weaker result _ _ (λ fault rose read. rose_earlier before between now later (rose read)) answered.cause;
}
