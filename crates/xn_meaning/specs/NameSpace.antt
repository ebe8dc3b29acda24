-- The map from directory and name to inode, and the walk of a path through it. Nothing of blocks and bytes is here.
use Rattle.std.specs.Prelude.{◌≡◌, ◌≢◌, ◌⊎◌, ℕ, nat_lt, if◌then◌else◌, List, [], ◌∷◌, length, All, Contains, Option, Some, None}
use Rattle.std.specs.List.{AllAdjacentBelow}
use Rattle.std.specs.Ordering.{nat_cmp}
use Rattle.std.specs.Cmp.Lexicographic.{slice_cmp}
use Rattle.std.specs.declared.cmp.Ordering.TheVariants.{Less}
use Rattle.xn_bytes.specs.declared.kind.Kind.{Kind}
use Rattle.xn_bytes.specs.declared.kind.Kind.TheVariants.{Dir}
use Rattle.xn_meaning.specs.declared.errno.Errno.{Errno}
use Rattle.xn_meaning.specs.declared.errno.Errno.TheVariants.{ENOENT, ENOTDIR, EINVAL, ENAMETOOLONG}
use Rattle.xn_bytes.specs.Names.{IsName}
use Rattle.xn_meaning.specs.Replies.{Reply, EntryOf, ErrorOf, Line, Summary}

-- ---- how a command that only reads ends

-- With a reply; with a summary of what was checked; or at an inode that breaks a rule, which is told with the inode and the block.
pub data End : Type 0 where
  Says : Reply → End
  Sums : Summary → End
  Breaks : ℕ → ℕ → ℕ → End

-- ---- the map

-- an inode that a name leads to, and its kind
pub record Place : Type 0 where
  pub ino : ℕ
  pub kind : Kind

-- what a name in a directory stands for, if it stands for anything
abbrev pub NameMap : Type 0
NameMap = ℕ → List ℕ → Option Place

-- The lines of all the names that a map has in a directory, sorted by the bytes of the names, each once.
pub record AreLinesOfMap (names : List ℕ → Option Place) (lines : List Line) : Type 0 where
  pub each : All (λ line. names line.name ≡ Some (record { ino = line.ino; kind = line.kind })) lines
  pub complete : (name : List ℕ) (place : Place) → names name ≡ Some place → Contains lines (record { ino = place.ino; kind = place.kind; name = name })
  pub rising : AllAdjacentBelow (λ a b. slice_cmp nat_cmp a.name b.name ≡ Less) lines (length lines)

-- ---- the walk

-- what comes of one part of a path: the walk ends, or it goes on from a place
pub data Step : Type 0 where
  Ends : End → Step
  Goes : Place → Step

-- The walk from a place along the parts of a path, by what comes of a part at a place. Without parts it ends where it is.
abbrev pub Walks : (Place → List ℕ → Step → Type 0) → Place → List (List ℕ) → End → Type 0
Walks Takes here [] end = end ≡ Says (EntryOf here.ino here.kind)
Walks Takes here (part ∷ parts) end = Takes here part (Ends end) ⊎ ((next : Place) × Takes here part (Goes next) × Walks Takes next parts end)

-- the walk along these parts comes from a place to another
abbrev pub Reaches : (Place → List ℕ → Step → Type 0) → Place → List (List ℕ) → Place → Type 0
Reaches Takes from [] here = here ≡ from
Reaches Takes from (part ∷ parts) here = (next : Place) × Takes from part (Goes next) × Reaches Takes next parts here

-- the refusal of a part that is no name
abbrev pub part_error : List ℕ → Errno
part_error part = if nat_lt 255 (length part) then ENAMETOOLONG else EINVAL

-- on to what a name stands for; else there is no such entry
abbrev pub step_to : Option Place → Step
step_to None = Ends (Says (ErrorOf ENOENT))
step_to (Some place) = Goes place

-- One part over a map of names: only a directory has parts behind it, the part is a name, and it stands for something
-- there.
abbrev pub TakesInMap : NameMap → Place → List ℕ → Step → Type 0
TakesInMap names here part step =
    ((here.kind ≢ Dir) × (step ≡ Ends (Says (ErrorOf ENOTDIR))))
    ⊎ ((here.kind ≡ Dir) × ¬ IsName part × (step ≡ Ends (Says (ErrorOf (part_error part)))))
    ⊎ ((here.kind ≡ Dir) × IsName part × (step ≡ step_to (names here.ino part)))
