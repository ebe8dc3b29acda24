-- A fault of one block is one of the tree.
use Rattle.std.proofs.Common.{◌≡◌, ℕ, List, ◌∷◌, Option, subst, arith}
use Rattle.std.specs.Prelude.{IfSome}
use Rattle.xn_bytes.specs.Trees.{Tree, TreeFork, Held, Met, Visit, Stands, BreaksAt, block_number}
use Rattle.xn_inode.specs.declared.store.Store.{Ghosts}
use Rattle.xn_inode.specs.declared.fork_fault.ForkFault.{ForkFault}
use Rattle.xn_inode.specs.declared.fork_fault.ForkFault.TheVariants.{Read, Memory, Broken}
use Rattle.xn_inode.specs.Frames.{StoreStays}
use Rattle.xn_datree.specs.declared.fork.Fork.{Fork}
use Rattle.xn_datree.specs.Forks.{tree_fork, IsTreeFault}
use Rattle.xn_datree.proofs.Walking.{Led, led_over_fault, over_one}

pub visit_fault : {E S : Type 0} (store : Ghosts S) (T : List ℕ → Tree E) (fork : Fork) (visit : Visit) (entries : List E) (met : List Met) (agenda whole : List Visit) (old mid new : S) (fault : ForkFault)
    → StoreStays store old mid → ((x : List ℕ) → tree_fork (store.shape old) fork ≡ (T x).fork) → whole ≡ visit ∷ agenda
    → IfSome (store.image old) (λ x. Led (T x) entries met whole)
    → IsTreeFault store (λ x block. (block ≡ block_number (tree_fork (store.shape old) fork) visit.file_block) × ((held : Held E) → Stands (T x) met visit held → ⊥)) fork mid new fault
    → IsTreeFault store (λ x. BreaksAt (T x)) fork old new fault
visit_fault {E} store T fork visit entries met agenda whole old mid new Read stays forks w led fails = let later = stays.faults_later in omega arith
visit_fault {E} store T fork visit entries met agenda whole old mid new Memory stays forks w led fails = tt
visit_fault {E} store T fork visit entries met agenda whole old mid new (Broken rule block) stays forks w led fails =
    let there = subst (λ (i : Option (List ℕ)). IfSome i (λ x. (block ≡ block_number (tree_fork (store.shape old) fork) visit.file_block) × ((held : Held E) → Stands (T x) met visit held → ⊥))) stays.image_stays fails.1 in (
      fails.0,
      led_over_fault T (store.image old) entries met visit agenda whole block w
          (over_one (λ x. (block ≡ block_number (tree_fork (store.shape old) fork) visit.file_block) × ((held : Held E) → Stands (T x) met visit held → ⊥))
          (λ x. (block ≡ block_number (T x).fork visit.file_block) × ((held : Held E) → Stands (T x) met visit held → ⊥)) (store.image old)
          (λ x f. (subst (λ (t : TreeFork). block ≡ block_number t visit.file_block) (forks x) f.0, f.1)) there)
          led,
    )
