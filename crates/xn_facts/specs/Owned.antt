-- What the bytes of an inode say of it, whatever its blocks hold.
use Rattle.std.specs.Prelude.{◌≡◌, ◌⊎◌, ℕ, List, [], map, Some, MatchOption, Result, MatchResult}
use Rattle.xn_bytes.specs.declared.kind.Kind.TheVariants.{Dir}
use Rattle.xn_bytes.specs.Superblock.{Geometry, OrElse}
use Rattle.xn_bytes.specs.Inode.{CoreFields, CoreHolds, HasCore, HasBothForks}
use Rattle.xn_bytes.specs.Extents.{Run as Mapped}
use Rattle.xn_bytes.specs.AttributeForks.{HasOwnInode}
use Rattle.xn_rules.specs.InodeRules.{BreaksBlockCount, blocks_in}
use Rattle.xn_bytes.specs.Kinds.{kind_of_mode}
use Rattle.xn_bytes.specs.Numbers.{number_at}
use Rattle.xn_inode.specs.declared.inode_core.CoreFault.{CoreFault}
use Rattle.xn_facts.specs.declared.facts.Known.{Known}
use Rattle.xn_facts.specs.declared.own.Own.{Own}
use Rattle.xn_facts.specs.Facts.{AreForkRuns, IsFirstOf, mapped_of}

-- what is kept of a core are its fields
pub record HasFields (core : CoreFields) (known : Known) : Type 0 where
  pub kind : known.kind ≡ core.kind
  pub nlink : known.nlink ≡ core.nlink
  pub generation : known.generation ≡ core.generation

-- the verdict on the core of these bytes: its fields, where rules 10 and 11 hold, else the lesser of the two that is broken
abbrev pub IsCoreVerdict : Geometry → ℕ → List ℕ → Result CoreFields CoreFault → Type 0
IsCoreVerdict g ino inode verdict =
    MatchResult verdict (λ core. HasCore inode ino g.meta_uuid × HasBothForks g inode ino × CoreHolds inode core)
    (λ fault. OrElse fault.rule 10 (HasCore inode ino g.meta_uuid) (OrElse fault.rule 11 (HasBothForks g inode ino) ⊥))

-- rules 10 and 11 hold of the bytes, and they say this
pub record IsKnownBy (g : Geometry) (inode : List ℕ) (ino : ℕ) (known : Known) : Type 0 where
  pub core : HasCore inode ino g.meta_uuid
  pub forks : HasBothForks g inode ino
  pub kind : kind_of_mode (number_at 2 2 inode) ≡ Some known.kind
  pub nlink : number_at 4 16 inode ≡ known.nlink
  pub generation : number_at 4 92 inode ≡ known.generation

-- the runs of which rule 9 speaks, where rules 10, 11 and 13 hold; none else
abbrev pub AreOwnRuns : Geometry → List ℕ → ℕ → List Mapped → Type 0
AreOwnRuns g inode ino runs = (HasOwnInode g inode ino × AreForkRuns inode runs) ⊎ (¬ HasOwnInode g inode ino × (runs ≡ []))

-- rule 14 of a core and the runs that its forks map
abbrev pub BreaksCount : CoreFields → List Mapped → ℕ → ℕ → Type 0
BreaksCount core runs rule block = (rule ≡ 14) × (block ≡ 0) × (core.kind ≡ Dir) × ¬ (core.nblocks ≡ blocks_in runs)

-- rule 14 of the bytes
abbrev pub BreaksOwnCount : Geometry → List ℕ → ℕ → ℕ → ℕ → Type 0
BreaksOwnCount g inode ino rule block = (rule ≡ 14) × (block ≡ 0) × BreaksBlockCount g inode ino

-- what the bytes say: what is kept of the core, what the forks map, and whether rule 14 is broken
pub record OwnHolds (g : Geometry) (inode : List ℕ) (ino : ℕ) (own : Own) : Type 0 where
  pub known : MatchOption own.known (¬ (HasCore inode ino g.meta_uuid × HasBothForks g inode ino)) (IsKnownBy g inode ino)
  pub runs : AreOwnRuns g inode ino (map mapped_of own.runs.items)
  pub broken : IsFirstOf (BreaksOwnCount g inode ino) own.broken
