-- What `check` answers of an image: the first rule that is broken, or a summary of what is there.
use Rattle.std.specs.Prelude.{◌≡◌, ◌⊎◌, ℕ, ◌<◌, ◌↔◌, Bool, false, List, length, count_by, Any, Contains, Option, Some, None}
use Rattle.std.specs.List.{AllAdjacentBelow}
use Rattle.xn_bytes.specs.declared.kind.Kind.{Kind}
use Rattle.xn_bytes.specs.Numbers.{number_at}
use Rattle.xn_bytes.specs.Kinds.{kind_of_mode}
use Rattle.xn_bytes.specs.Superblock.{Geometry}
use Rattle.xn_bytes.specs.Inode.{inode_of}
use Rattle.xn_bytes.specs.Extents.{Run}
use Rattle.xn_meaning.specs.Manifests.{Manifest, InPool}
use Rattle.xn_rules.specs.Namings.{Naming}
use Rattle.xn_rules.specs.NameRules.{is_directory}
use Rattle.xn_meaning.specs.NameSpace.{End, Sums, Breaks}
use Rattle.xn_meaning.specs.Replies.{Summary}
use Rattle.xn_rules.specs.Sound.{FirstBroken, Sound, Maps}

-- a mode is a directory's
abbrev pub is_directory_kind : Option Kind → Bool
is_directory_kind None = false
is_directory_kind (Some kind) = is_directory kind

-- how many of these inodes are directories by their modes
abbrev pub directories_among : Geometry → List ℕ → List ℕ → ℕ
directories_among g image inodes = count_by (λ ino. is_directory_kind (kind_of_mode (number_at 2 2 (inode_of g image ino)))) inodes

-- the blocks of the pool that no run maps, in rising order
pub record AreFreeBlocks (m : Manifest) (runs : List Run) (free : List ℕ) : Type 0 where
  pub rising : AllAdjacentBelow (λ a b. a < b) free (length free)
  pub each : (block : ℕ) → Contains free block ↔ (InPool m block × ¬ Any (Maps block) runs)

-- the summary of an image that is accepted, with nothing pending
pub record IsSummary (g : Geometry) (m : Manifest) (image : List ℕ) (summary : Summary) : Type 0 where
  pub live : List ℕ
  pub namings : List Naming
  pub runs : List Run
  pub free : List ℕ
  pub sound : Sound g m image live namings runs
  pub are_free : AreFreeBlocks m runs free
  pub inodes : summary.inodes ≡ length live
  pub directories : summary.directories ≡ directories_among g image live
  pub entries : summary.entries ≡ length namings
  pub pending : summary.pending ≡ 0
  pub blocks : summary.free ≡ length free

-- What `check` answers. The cases shut each other out (`xn_sound` shows it).
abbrev pub CheckEnds : Geometry → Manifest → List ℕ → End → Type 0
CheckEnds g m image end =
    ((rule : ℕ) × (inode : ℕ) × (block : ℕ) × (end ≡ Breaks inode rule block) × FirstBroken g m image rule inode block)
    ⊎ ((summary : Summary) × (end ≡ Sums summary) × IsSummary g m image summary)
