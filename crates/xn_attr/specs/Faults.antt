-- What a fault says of an inode's attributes.
use Rattle.std.specs.Prelude.{◌≡◌, ℕ, List, IfSome}
use Rattle.xn_bytes.specs.Causes.{Rose}
use Rattle.xn_bytes.specs.Superblock.{Geometry}
use Rattle.xn_bytes.specs.Inode.{attr_fork_of, inode_of}
use Rattle.xn_bytes.specs.declared.attribute.Attribute.{Attribute}
use Rattle.xn_bytes.specs.ShortAttributes.{ShortAttributesHold}
use Rattle.xn_bytes.specs.AttributeForks.{AttrBreaks, AttrFails, IsTreeFork, OrBreaksOwn, attr_tree}
use Rattle.xn_bytes.specs.Blocks.{block_of}
use Rattle.xn_bytes.specs.Trees.{Held, IsTree, block_number}
use Rattle.xn_inode.specs.Faults.{IsRule}
use Rattle.xn_inode.specs.declared.fork_fault.ForkFault.{ForkFault}
use Rattle.xn_inode.specs.declared.fork_fault.ForkFault.TheVariants.{Read, Memory, Broken}
use Rattle.xn_inode.specs.declared.store.Store.{Ghosts}

-- rule 24 of a fork that is no short form
abbrev pub IsShortFault : List ℕ → ForkFault → Type 0
IsShortFault inode = IsRule 24 ((attributes : List Attribute) × ShortAttributesHold (attr_fork_of inode) attributes)

-- Over a store's image, where it is told: the rule that is broken, by what breaks it. Reading fails only where the count of
-- faults rose.
abbrev pub IsFaultBy : {S : Type 0} → Ghosts S → (List ℕ → ℕ → ℕ → Type 0) → S → S → ForkFault → Type 0
IsFaultBy store Breaks old new Read = Rose (store.faults old) (store.faults new)
IsFaultBy store Breaks old new Memory = Unit {0}
IsFaultBy store Breaks old new (Broken rule block) = IfSome (store.image old) (λ x. Breaks x rule block)

-- the rules of the inode alone
abbrev pub IsInodeFault : {S : Type 0} → Ghosts S → ℕ → S → S → ForkFault → Type 0
IsInodeFault store ino old new = IsFaultBy store (λ x rule block. OrBreaksOwn (store.shape old) ino (inode_of (store.shape old) x ino) rule block ⊥) old new

-- the least rule that is broken
abbrev pub IsAttrFault : {S : Type 0} → Ghosts S → ℕ → S → S → ForkFault → Type 0
IsAttrFault store ino old new = IsFaultBy store (λ x. AttrBreaks (store.shape old) x ino) old new

-- the rule that a search for a hash names
abbrev pub IsSearchFault : {S : Type 0} → Ghosts S → ℕ → ℕ → S → S → ForkFault → Type 0
IsSearchFault store ino hash old new = IsFaultBy store (λ x. AttrFails (store.shape old) x ino hash) old new

-- rule 25: there is no tree, and the root's block is named
abbrev pub BreaksRoot : Geometry → ℕ → List ℕ → (ℕ → List ℕ) → ℕ → ℕ → Type 0
BreaksRoot g ino inode blocks rule block =
    (rule ≡ 25) × IsTreeFork inode
    × (block ≡ block_number (attr_tree g ino inode blocks).fork 0) × ((helds : List (Held Attribute)) → ¬ IsTree (attr_tree g ino inode blocks) helds)

-- the rule that is broken where the root alone is read
abbrev pub IsRootFault : {S : Type 0} → Ghosts S → ℕ → S → S → ForkFault → Type 0
IsRootFault store ino old new =
    IsFaultBy store
    (λ x rule block. OrBreaksOwn (store.shape old) ino (inode_of (store.shape old) x ino) rule block (BreaksRoot (store.shape old) ino (inode_of (store.shape old) x ino) (block_of (store.shape old) x) rule block)) old new
