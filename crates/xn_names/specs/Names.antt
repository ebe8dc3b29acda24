-- Entries as contracts see them, and their orders.
use Rattle.std.specs.Prelude.{◌≡◌, List, AllPairs, IsSortedBy}
use Rattle.std.specs.Ordering.{nat_cmp, ordering_then, is_lt}
use Rattle.std.specs.Cmp.Lexicographic.{slice_cmp}
use Rattle.std.specs.declared.cmp.Ordering.{Ordering}
use Rattle.xn_bytes.specs.Parents.{ParentRecord}
use Rattle.xn_rules.specs.Namings as namings
use Rattle.xn_names.specs.declared.entry.Naming.{Naming}

-- an entry without its directory's generation, of which the rules speak
abbrev pub naming_of : Naming → namings.Naming
naming_of n = record { dir = n.dir; name = n.name; ino = n.ino; kind = n.kind }

-- the parent record that an entry asks for
abbrev pub asked_by : Naming → ParentRecord
asked_by n = record { dir = n.dir; generation = n.generation; name = n.name }

-- by the number of the directory, then by the bytes of the name
abbrev pub place_cmp : Naming → Naming → Ordering
place_cmp a b = ordering_then (nat_cmp a.dir b.dir) (slice_cmp nat_cmp a.name b.name)

-- by the number of the inode, then by directory and name
abbrev pub naming_cmp : Naming → Naming → Ordering
naming_cmp a b = ordering_then (nat_cmp a.ino b.ino) (place_cmp a b)

-- entries in the whole order, and in that of directories and names
abbrev pub IsInOrder : List Naming → Type 0
IsInOrder xs = IsSortedBy (λ a b. is_lt (naming_cmp a b)) xs

abbrev pub IsByPlace : List Naming → Type 0
IsByPlace xs = IsSortedBy (λ a b. is_lt (place_cmp a b)) xs

-- entries of one directory have its one generation
abbrev pub HasOneGeneration : List Naming → Type 0
HasOneGeneration xs = AllPairs (λ a b. a.dir ≡ b.dir → a.generation ≡ b.generation) xs
