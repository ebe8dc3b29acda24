-- Faults of the blocks of a directory in leaf or node form, from one moment of a store to another.
use Rattle.std.proofs.Common.{ℕ, List, Option, arith, subst}
use Rattle.std.specs.Prelude.{IfSome}
use Rattle.std.proofs.lemmas.Option.{IfSome_then}
use Rattle.xn_inode.specs.declared.store.Store.{Ghosts}
use Rattle.xn_inode.specs.Frames.{StoreStays}
use Rattle.xn_inode.specs.declared.fork_fault.ForkFault.{ForkFault}
use Rattle.xn_inode.specs.declared.fork_fault.ForkFault.TheVariants.{Read, Memory, Broken}
use Rattle.xn_dir.specs.Faults.{IsHashedFault}
use Rattle.xn_dir.proofs.Following.{IfSome_both}

-- a fault after some reads, by what it says then of the same image
pub fault_later : {S : Type 0} (store : Ghosts S) (A B : List ℕ → ℕ → ℕ → Type 0) (old mid new : S) (fault : ForkFault) → StoreStays store old mid
    → ((x : List ℕ) (rule block : ℕ) → A x rule block → B x rule block) → IsHashedFault store A mid new fault → IsHashedFault store B old new fault
fault_later store A B old mid new Read stays leads fails = let later = stays.faults_later in omega arith
fault_later store A B old mid new Memory stays leads fails = tt
fault_later store A B old mid new (Broken rule block) stays leads fails =
    IfSome_then (store.image old) (subst (λ (i : Option (List ℕ)). IfSome i (λ x. A x rule block)) stays.image_stays fails) (λ x. leads x rule block)

-- the same where what leads on is known over the image
pub fault_over : {S : Type 0} (store : Ghosts S) (A B : List ℕ → ℕ → ℕ → Type 0) (old mid new : S) (fault : ForkFault) → StoreStays store old mid
    → IfSome (store.image old) (λ x. (rule block : ℕ) → A x rule block → B x rule block) → IsHashedFault store A mid new fault → IsHashedFault store B old new fault
fault_over store A B old mid new Read stays leads fails = let later = stays.faults_later in omega arith
fault_over store A B old mid new Memory stays leads fails = tt
fault_over store A B old mid new (Broken rule block) stays leads fails =
    IfSome_both (store.image old) leads (subst (λ (i : Option (List ℕ)). IfSome i (λ x. A x rule block)) stays.image_stays fails) (λ x on breaks. on rule block breaks)
