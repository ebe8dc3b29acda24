-- What a fault of a fork says, and a store's fault as one of the fork that was read or changed.
use Rattle.std.specs.Prelude.{◌≡◌, ℕ}
use Rattle.xn_inode.specs.declared.store.StoreFault.{StoreFault}
use Rattle.xn_inode.specs.declared.store.StoreFault.TheVariants as store
use Rattle.xn_inode.specs.declared.fork_fault.ForkFault.{ForkFault}
use Rattle.xn_inode.specs.declared.fork_fault.ForkFault.TheVariants as fork

abbrev pub fork_fault_of : StoreFault → ForkFault
fork_fault_of store.Read = fork.Read
fork_fault_of store.Memory = fork.Memory

-- one rule, of those that name no block, or want of memory
abbrev pub IsRule : ℕ → Type 0 → ForkFault → Type 0
IsRule rule Fact fork.Read = ⊥
IsRule rule Fact fork.Memory = Unit {0}
IsRule rule Fact (fork.Broken number block) = (number ≡ rule) × (block ≡ 0) × ¬ Fact
