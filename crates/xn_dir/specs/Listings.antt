-- Listed entries as contracts see them.
use Rattle.std.specs.Prelude.{ℕ, List, IsSortedBy}
use Rattle.std.specs.Ordering.{nat_cmp, is_lt}
use Rattle.std.specs.Cmp.Lexicographic.{slice_cmp}
use Rattle.xn_bytes.specs.Entries.{Entry}
use Rattle.xn_dir.specs.declared.listing.Listed.{Listed}

abbrev pub entry_of : Listed → Entry
entry_of listed = record { name = listed.name; ino = listed.ino; kind = listed.kind; position = listed.position }

abbrev pub name_of : Listed → List ℕ
name_of listed = listed.name

-- no name comes before the one in front of it
abbrev pub AreSorted : List (List ℕ) → Type 0
AreSorted names = IsSortedBy (λ a b. is_lt (slice_cmp nat_cmp a b)) names
