-- An entry of a directory, in whichever form the directory is kept, and how much place it takes.
use Rattle.std.specs.Prelude.{ℕ, ◌+◌, ◌*◌, ◌/◌, List}
use Rattle.xn_bytes.specs.declared.kind.Kind.{Kind}

-- a name, the inode that it names with its kind, and its byte position in the directory's data
pub record Entry : Type 0 where
  pub name : List ℕ
  pub ino : ℕ
  pub kind : Kind
  pub position : ℕ

-- how many bytes an entry takes in a data block: 12, its name's length, rounded up to a multiple of 8
abbrev pub data_entry_length : ℕ → ℕ
data_entry_length name_length = (12 + name_length + 7) / 8 * 8
