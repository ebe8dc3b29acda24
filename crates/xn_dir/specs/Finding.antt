-- What a look-up of a name finds among entries.
use Rattle.std.specs.Prelude.{◌≡◌, ◌≢◌, ◌⊎◌, ℕ, ◌*◌, List, All, Contains, Option, Some, None, IfSome}
use Rattle.xn_bytes.specs.Superblock.{Geometry}
use Rattle.xn_bytes.specs.Hashes.{name_hash_of}
use Rattle.xn_bytes.specs.Entries as held
use Rattle.xn_bytes.specs.DataBlock.{DataForm, LeafEntry, entries_among}
use Rattle.xn_bytes.specs.DirectoryForms.{AreSorted, HoldsFirst, IsIndexOf}
use Rattle.xn_bytes.specs.Blocks.{block_of}
use Rattle.xn_bytes.specs.Inode.{inode_of}
use Rattle.xn_bytes.specs.LeafForms.{IsInBlocks}
use Rattle.xn_bytes.specs.DirectoryHolds.{DirHolds, EntriesStand, IsIndexed, StandsInBlocks}
use Rattle.xn_dir.specs.declared.entry.Entry.{Entry}

-- an entry stands in this place
abbrev pub HasPlace : List held.Entry → ℕ → Type 0
HasPlace entries position = (entry : held.Entry) × Contains entries entry × (entry.position ≡ position)

-- a leaf entry is stale, or leads to an entry with another name
abbrev pub Misses : List ℕ → List held.Entry → LeafEntry → Type 0
Misses name entries leaf = (leaf.address ≡ 0) ⊎ ((entry : held.Entry) × Contains entries entry × (entry.position ≡ leaf.address * 8) × (entry.name ≢ name))

-- so does each leaf entry of the name's hash
abbrev pub AllMiss : List ℕ → DataForm → Type 0
AllMiss name form = All (λ leaf. leaf.hash ≡ name_hash_of name → Misses name (entries_among form.regions) leaf) form.leaves

-- None exactly where no entry has the name; else one that has it
abbrev pub Finds : List ℕ → List held.Entry → Option Entry → Type 0
Finds name entries None = All (λ entry. entry.name ≢ name) entries
Finds name entries (Some found) = Contains entries (record { name = name; ino = found.ino; kind = found.kind; position = found.position })

-- Where the directory of an image holds entries and all is in order that a look-up rests on, what is found is found among
-- these.
abbrev pub FindsOver : Geometry → List ℕ → ℕ → List ℕ → Option Entry → Type 0
FindsOver g image dir name found = (entries : List held.Entry) (dotdot : ℕ) → DirHolds g image dir entries dotdot → Finds name entries found

-- In short and block form what is found rests on all entries that stand in the directory, whatever its leaf entries say: an
-- entry that is found is one of them, and where the leaf entries are sorted and theirs, None means that none of them has the
-- name.
pub record RestsOnAll (g : Geometry) (image : List ℕ) (dir : ℕ) (name : List ℕ) (found : Option Entry) : Type 0 where
  pub entries : List held.Entry
  pub dotdot : ℕ
  pub stand : EntriesStand g image dir entries dotdot
  pub there : IfSome found (λ entry. Finds name entries (Some entry))
  pub indexed : IsIndexed g image dir → Finds name entries found

-- an entry that was found, with its name
abbrev pub named : List ℕ → Entry → held.Entry
named name found = record { name = name; ino = found.ino; kind = found.kind; position = found.position }

-- In leaf and node form an entry that is found stands in a data block.
abbrev pub RestsOnOne : Geometry → List ℕ → ℕ → List ℕ → Option Entry → Type 0
RestsOnOne g image dir name found =
    IsInBlocks (inode_of g image dir)
    × IfSome found (λ entry. StandsInBlocks g dir (inode_of g image dir) (block_of g image) (named name entry))

-- What is found rests on what stands in the directory.
abbrev pub StandsOver : Geometry → List ℕ → ℕ → List ℕ → Option Entry → Type 0
StandsOver g image dir name found = RestsOnAll g image dir name found ⊎ RestsOnOne g image dir name found

-- The same of the first block of a directory in block form, by its bytes.
pub record StandsInFirst (g : Geometry) (dir block : ℕ) (bytes name : List ℕ) (found : Option Entry) : Type 0 where
  pub form : DataForm
  pub entries : List held.Entry
  pub dotdot : ℕ
  pub first : HoldsFirst g dir block bytes form entries dotdot
  pub there : IfSome found (λ entry. Finds name entries (Some entry))
  pub indexed : AreSorted form.leaves → IsIndexOf form.leaves (entries_among form.regions) → Finds name entries found
