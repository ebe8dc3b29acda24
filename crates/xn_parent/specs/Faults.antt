-- What a fault says of an inode's parent records.
use Rattle.std.specs.Prelude.{ℕ}
use Rattle.xn_bytes.specs.ParentRecords.{ParentsBreak}
use Rattle.xn_inode.specs.declared.fork_fault.ForkFault.{ForkFault}
use Rattle.xn_inode.specs.declared.store.Store.{Ghosts}
use Rattle.xn_attr.specs.Faults.{IsFaultBy}

-- the least rule that is broken, over a store's image
abbrev pub IsParentsFault : {S : Type 0} → Ghosts S → ℕ → S → S → ForkFault → Type 0
IsParentsFault store ino old new = IsFaultBy store (λ x. ParentsBreak (store.shape old) x ino) old new
