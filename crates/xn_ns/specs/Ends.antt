-- How the reading commands end, by their results.
use Rattle.std.specs.Prelude.{◌≡◌, ℕ, List, Option, Some, None, IfSome, Result, Ok, Err, IfErr}
use Rattle.xn_bytes.specs.Causes.{Rose}
use Rattle.xn_meaning.specs.NameSpace.{End, Says, Breaks}
use Rattle.xn_inode.specs.declared.store.StoreFault.{StoreFault}
use Rattle.xn_inode.specs.declared.store.StoreFault.TheVariants as store
use Rattle.xn_inode.specs.declared.fork_fault.ForkFault.{ForkFault}
use Rattle.xn_inode.specs.declared.fork_fault.ForkFault.TheVariants as fork
use Rattle.xn_text.specs.declared.reply.Reply.{Reply}
use Rattle.xn_text.specs.Viewed.{reply_of}
use Rattle.xn_ns.specs.declared.fault.SeeFault.{SeeFault}
use Rattle.xn_ns.specs.declared.fault.SeeFault.TheVariants as see

-- a store's fault as one of a command
abbrev pub see_fault_of : StoreFault → SeeFault
see_fault_of store.Read = see.Read
see_fault_of store.Memory = see.Memory

-- a fault of a directory as one of a command
abbrev pub see_fault_in : ℕ → ForkFault → SeeFault
see_fault_in dir fork.Read = see.Read
see_fault_in dir fork.Memory = see.Memory
see_fault_in dir (fork.Broken rule block) = see.Broken rule dir block

-- what a fault tells of the image; the outside's and want of memory tell nothing
abbrev pub fault_end : SeeFault → Option End
fault_end see.Read = None
fault_end see.Memory = None
fault_end (see.Broken rule inode block) = Some (Breaks inode rule block)

-- how a command ended
abbrev pub end_of : Result Reply SeeFault → Option End
end_of (Ok reply) = Some (Says (reply_of reply))
end_of (Err fault) = fault_end fault

-- A command ended as it does over the image, where one is told. Reading failed only where the count of faults rose.
pub record Answered (EndsWith : List ℕ → End → Type 0) (image : Option (List ℕ)) (before now : ℕ) (result : Result Reply SeeFault) : Type 0 where
  pub ends : IfSome (end_of result) (λ end. IfSome image (λ x. EndsWith x end))
  pub cause : IfErr result (λ fault. fault ≡ see.Read → Rose before now)
