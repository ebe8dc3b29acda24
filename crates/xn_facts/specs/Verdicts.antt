-- A rule that is broken, by a fault, and the lesser of two.
use Rattle.std.specs.Prelude.{nat_lt, if◌then◌else◌, Option, Some, None, Result, Ok, Err}
use Rattle.xn_inode.specs.declared.store.StoreFault.{StoreFault}
use Rattle.xn_inode.specs.declared.store.StoreFault.TheVariants as store
use Rattle.xn_inode.specs.declared.fork_fault.ForkFault.{ForkFault}
use Rattle.xn_inode.specs.declared.fork_fault.ForkFault.TheVariants as fork
use Rattle.xn_facts.specs.declared.facts.Broken.{Broken}

abbrev pub broken_in : ForkFault → Result Broken StoreFault
broken_in fork.Read = Err store.Read
broken_in fork.Memory = Err store.Memory
broken_in (fork.Broken rule block) = Ok (record { rule = rule; block = block })

-- the one with the lesser rule, of the same rule the first
abbrev pub lesser_of : Option Broken → Option Broken → Option Broken
lesser_of None other = other
lesser_of (Some first) None = Some first
lesser_of (Some first) (Some second) = if nat_lt second.rule first.rule then Some second else Some first
