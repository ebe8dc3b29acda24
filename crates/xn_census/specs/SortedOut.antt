-- Entries that name inodes rightly, and the entries of whole directories.
use Rattle.std.specs.Prelude.{◌≡◌, ◌⊎◌, ◌↔◌, Bool, false, true, IsTrue, List, [], ◌∷◌, ◌++◌, map, filter, count_by, All, Any, Option, Some, None}
use Rattle.xn_bytes.specs.declared.kind.Kind.{Kind}
use Rattle.xn_bytes.specs.Entries.{Entry}
use Rattle.xn_rules.specs.NameRules.{is_directory}
use Rattle.xn_dir.specs.Listings.{entry_of}
use Rattle.xn_dir.specs.declared.listing.Listed.{Listed}
use Rattle.xn_facts.specs.declared.facts.Known.{Known}
use Rattle.xn_facts.specs.declared.facts.Node.{Node}
use Rattle.xn_names.specs.declared.entry.Naming.{Naming}
use Rattle.xn_reach.specs.declared.step.Step.{Step}
use Rattle.xn_census.specs.declared.census.Held.{Held}
use Rattle.xn_census.specs.declared.sorted_out.Whole.{Whole}
use Rattle.xn_census.specs.declared.sorted_out.SortedOut.{SortedOut}

-- the kind is this, where it is known
abbrev pub IsOfKind : Kind → Option Known → Type 0
IsOfKind kind None = Unit {0}
IsOfKind kind (Some known) = known.kind ≡ kind

-- an entry names one of these inodes, as one of its kind
abbrev pub RightBy : List Node → Entry → Type 0
RightBy nodes entry = Any (λ node. (node.ino ≡ entry.ino) × IsOfKind entry.kind node.known) nodes

-- an entry says of its inode that it is a directory
abbrev pub lists_directory : Listed → Bool
lists_directory listed = is_directory listed.kind

abbrev pub names_directory : Naming → Bool
names_directory n = is_directory n.kind

-- an entry with its directory, and the step from this to the inode that it names
abbrev pub named_in : Held → Listed → Naming
named_in held listed = record { dir = held.dir; generation = held.generation; ino = listed.ino; kind = listed.kind; name = listed.name }

abbrev pub step_in : Held → Listed → Step
step_in held listed = record { from = held.dir; to = listed.ino }

-- the steps of a directory: to the directories in it
abbrev pub steps_in : Held → List Listed → List Step
steps_in held entries = map (step_in held) (filter lists_directory entries)

-- What is said of a directory that holds entries: whether all are right, how many name directories, and whether there are none.
pub record IsWholeOf (nodes : List Node) (held : Held) (whole : Whole) : Type 0 where
  pub dir : whole.dir ≡ held.dir
  pub dotdot : whole.dotdot ≡ held.contents.dotdot
  pub has_dot : whole.has_dot ≡ held.contents.has_dot
  pub right : IsTrue whole.is_right ↔ All (λ listed. RightBy nodes (entry_of listed)) held.contents.entries.items
  pub subdirectories : whole.subdirectories ≡ count_by (λ listed. is_directory listed.kind) held.contents.entries.items
  pub empty : IsTrue whole.is_empty ↔ (held.contents.entries.items ≡ [])

-- the entries of one directory: all, or none where one is not right
abbrev pub AreTaken : Held → Whole → List Naming → List Step → Type 0
AreTaken held whole namings steps =
    ((whole.is_right ≡ true) × (namings ≡ map (named_in held) held.contents.entries.items) × (steps ≡ steps_in held held.contents.entries.items))
    ⊎ ((whole.is_right ≡ false) × (namings ≡ []) × (steps ≡ []))

-- of directories, one behind the other
abbrev pub AreSortedOut : List Node → List Held → List Whole → List Naming → List Step → Type 0
AreSortedOut nodes [] wholes namings steps = (wholes ≡ []) × (namings ≡ []) × (steps ≡ [])
AreSortedOut nodes (held ∷ helds) wholes namings steps =
    (whole : Whole) × (others : List Whole) × (own : List Naming) × (rest : List Naming) × (out : List Step) × (further : List Step)
    × IsWholeOf nodes held whole × AreTaken held whole own out × AreSortedOut nodes helds others rest further
    × (wholes ≡ whole ∷ others) × (namings ≡ own ++ rest) × (steps ≡ out ++ further)

abbrev pub SortsOut : List Node → List Held → SortedOut → Type 0
SortsOut nodes helds out = AreSortedOut nodes helds out.wholes.items out.namings.items out.steps.items
