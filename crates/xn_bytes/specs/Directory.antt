-- What a directory holds, and which of its entries are right.
use Rattle.std.specs.Prelude.{◌≡◌, ◌≢◌, ℕ, ◌≤◌, List, length, take, All, AllPairs, IsPermutation}
use Rattle.std.specs.List.{AllAdjacentBelow}
use Rattle.std.specs.Ordering.{nat_cmp}
use Rattle.std.specs.Cmp.Lexicographic.{slice_cmp}
use Rattle.std.specs.declared.cmp.Ordering.TheVariants.{Less}
use Rattle.xn_bytes.specs.Numbers.{number_at}
use Rattle.xn_bytes.specs.Names.{IsName}
use Rattle.xn_bytes.specs.Entries.{Entry}
use Rattle.xn_bytes.specs.Inode.{data_fork_of}

-- rule 15 of a directory in short form: its size is within the data fork
abbrev pub HasShortSize : List ℕ → Type 0
HasShortSize inode = number_at 8 56 inode ≤ length (data_fork_of inode)

-- the bytes of a directory's short form: as many as its size says
abbrev pub short_bytes_of : List ℕ → List ℕ
short_bytes_of inode = take (number_at 8 56 inode) (data_fork_of inode)

-- of rule 21: each entry has a name, and each name stands once
pub record HasNames (entries : List Entry) : Type 0 where
  pub names : All (λ entry. IsName entry.name) entries
  pub once : AllPairs (λ a b. a.name ≢ b.name) entries

-- one name comes before another, byte by byte
abbrev pub IsBefore : Entry → Entry → Type 0
IsBefore a b = slice_cmp nat_cmp a.name b.name ≡ Less

-- the same entries, sorted by the bytes of their names, each name once
pub record IsListing (entries sorted : List Entry) : Type 0 where
  pub same : IsPermutation entries sorted
  pub rising : AllAdjacentBelow IsBefore sorted (length sorted)
