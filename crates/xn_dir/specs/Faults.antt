-- What a fault says of a directory.
use Rattle.std.specs.Prelude.{◌≡◌, ℕ, List, Option, IfSome}
use Rattle.xn_bytes.specs.Causes.{Rose}
use Rattle.xn_bytes.specs.Superblock.{Geometry}
use Rattle.xn_bytes.specs.Blocks.{block_of}
use Rattle.xn_bytes.specs.Inode.{inode_of}
use Rattle.xn_bytes.specs.DirectoryRules.{OrBreaks, OrBreaksInode, OrBreaksForm, BreaksShort, BreaksFirst, BreaksBlocks, FailsBlocks}
use Rattle.xn_bytes.specs.DataBlock.{DataForm, entries_among}
use Rattle.xn_bytes.specs.DirectoryForms.{HasTail, IsIndexOf}
use Rattle.xn_inode.specs.declared.fork_fault.ForkFault.{ForkFault}
use Rattle.xn_inode.specs.declared.fork_fault.ForkFault.TheVariants.{Read, Memory, Broken}
use Rattle.xn_inode.specs.declared.store.Store.{Ghosts}
use Rattle.xn_dir.specs.Inodes.{IsDirectory}

-- What the bytes of an inode break, whatever the blocks hold, where it is a directory's. Nothing is read, and want of memory
-- is free.
abbrev pub IsFormFault : Geometry → ℕ → List ℕ → ForkFault → Type 0
IsFormFault g dir inode Read = ⊥
IsFormFault g dir inode Memory = Unit {0}
IsFormFault g dir inode (Broken rule block) = IsDirectory inode → OrBreaksInode g dir inode rule block ⊥

-- what a directory in leaf or node form breaks, by the geometry, the directory, its inode's bytes, and its blocks
abbrev pub Breaks : Type 1
Breaks = Geometry → ℕ → List ℕ → (ℕ → List ℕ) → ℕ → ℕ → Type 0

-- Over an image, where one is told, of an inode that is a directory's: the rule that is broken, where those of leaf and node
-- form are these. Reading fails only where the count of faults rose.
abbrev pub IsFaultOver : Breaks → Geometry → ℕ → Option (List ℕ) → ℕ → ℕ → ForkFault → Type 0
IsFaultOver InBlocks g dir image before now Read = Rose before now
IsFaultOver InBlocks g dir image before now Memory = Unit {0}
IsFaultOver InBlocks g dir image before now (Broken rule block) =
    IfSome image (λ x. OrBreaksForm g dir (inode_of g x dir) (block_of g x) rule block (InBlocks g dir (inode_of g x dir) (block_of g x) rule block))

-- the first rule that is broken, over a store's image
abbrev pub IsFaultOf : {S : Type 0} → Ghosts S → ℕ → S → S → ForkFault → Type 0
IsFaultOf store dir old new = IsFaultOver BreaksBlocks (store.shape old) dir (store.image old) (store.faults old) (store.faults new)

-- The rule that a look-up names: the first, but in leaf and node form one of those that are broken.
abbrev pub IsSeenFaultOf : {S : Type 0} → Ghosts S → ℕ → S → S → ForkFault → Type 0
IsSeenFaultOf store dir old new = IsFaultOver FailsBlocks (store.shape old) dir (store.image old) (store.faults old) (store.faults new)

-- a fault of the blocks of a directory in leaf or node form, by what they break over the image
abbrev pub IsHashedFault : {S : Type 0} → Ghosts S → (List ℕ → ℕ → ℕ → Type 0) → S → S → ForkFault → Type 0
IsHashedFault store BreaksOver old new Read = Rose (store.faults old) (store.faults new)
IsHashedFault store BreaksOver old new Memory = Unit {0}
IsHashedFault store BreaksOver old new (Broken rule block) = IfSome (store.image old) (λ x. BreaksOver x rule block)

-- The first of the rules 15, 16 and 21 that a directory in short form breaks.
abbrev pub IsShortFault : List ℕ → ForkFault → Type 0
IsShortFault inode Read = ⊥
IsShortFault inode Memory = Unit {0}
IsShortFault inode (Broken rule block) = BreaksShort inode rule block

-- The first of the rules 17, 18, 19 and 21 that the first block of a directory in block form breaks.
abbrev pub IsFirstFault : Geometry → ℕ → ℕ → List ℕ → ForkFault → Type 0
IsFirstFault g dir place bytes Read = ⊥
IsFirstFault g dir place bytes Memory = Unit {0}
IsFirstFault g dir place bytes (Broken rule block) = BreaksFirst g dir place bytes rule block

-- Of the rules 18 and 19 the first that its leaf entries break.
abbrev pub IsIndexFault : ℕ → DataForm → ForkFault → Type 0
IsIndexFault place form Read = ⊥
IsIndexFault place form Memory = ⊥
IsIndexFault place form (Broken rule block) = OrBreaks rule block 18 place (HasTail form) (OrBreaks rule block 19 0 (IsIndexOf form.leaves (entries_among form.regions)) ⊥)
