-- A parent of an inode.
use Rattle.std.specs.Prelude.{ℕ, List}

-- a directory with its generation, and the name of an entry there that names the inode
pub record ParentRecord : Type 0 where
  pub dir : ℕ
  pub generation : ℕ
  pub name : List ℕ
