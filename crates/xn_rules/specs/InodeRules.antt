-- The rules of the checker on one inode and its blocks, each looked at only where those that it needs hold, and how many blocks an
-- inode maps.
use Rattle.std.specs.Prelude.{◌≡◌, ◌⊎◌, ℕ, ◌==◌, ◌&&◌, nat_lt, if◌then◌else◌, List, [], ◌++◌, sum_by, Some}
use Rattle.xn_bytes.specs.declared.kind.Kind.TheVariants.{Dir}
use Rattle.xn_bytes.specs.Numbers.{number_at}
use Rattle.xn_bytes.specs.Kinds.{kind_of_mode}
use Rattle.xn_bytes.specs.Superblock.{Geometry}
use Rattle.xn_bytes.specs.Inode.{inode_of, extents_format}
use Rattle.xn_bytes.specs.Extents.{Run}
use Rattle.xn_bytes.specs.DirectoryForms.{data_runs_of}
use Rattle.xn_bytes.specs.DirectoryRules.{DirBreaks}
use Rattle.xn_bytes.specs.AttributeForks.{HasOwnInode, attr_runs_of}
use Rattle.xn_bytes.specs.ParentRecords.{ParentsBreak}

-- the mode of an inode is a directory's
abbrev pub IsOfDirectory : List ℕ → Type 0
IsOfDirectory inode = kind_of_mode (number_at 2 2 inode) ≡ Some Dir

-- ---- the blocks of an inode

-- the runs of a data fork that is a list of extents, and of an attribute fork that is there and one
abbrev pub data_fork_runs : List ℕ → List Run
data_fork_runs inode = if number_at 1 5 inode == extents_format then data_runs_of inode else []

abbrev pub attr_fork_runs : List ℕ → List Run
attr_fork_runs inode = if nat_lt 0 (number_at 1 82 inode) && (number_at 1 83 inode == extents_format) then attr_runs_of inode else []

-- how many blocks runs map
abbrev pub blocks_in : List Run → ℕ
blocks_in runs = sum_by (λ run. run.count) runs

-- rule 14 of a directory: the count of blocks in its core is that of the blocks that its two forks map
abbrev pub HasBlockCount : List ℕ → Type 0
HasBlockCount inode = number_at 8 64 inode ≡ blocks_in (data_fork_runs inode ++ attr_fork_runs inode)

-- rule 14 is looked at and broken
pub record BreaksBlockCount (g : Geometry) (inode : List ℕ) (ino : ℕ) : Type 0 where
  pub own : HasOwnInode g inode ino
  pub directory : IsOfDirectory inode
  pub wrong : ¬ HasBlockCount inode

-- ---- which rule is broken

-- A rule that an inode breaks by itself: the first of those of a directory (10, 11, 13 and 15 to 21, of 21 the names), the count of
-- its blocks (14), or the first of those of its parent records (10, 11, 13 and 24 to 26).
abbrev pub BreaksAlone : Geometry → List ℕ → ℕ → ℕ → ℕ → Type 0
BreaksAlone g image ino rule block =
    (IsOfDirectory (inode_of g image ino) × DirBreaks g image ino rule block)
    ⊎ ((rule ≡ 14) × (block ≡ 0) × BreaksBlockCount g (inode_of g image ino) ino)
    ⊎ ParentsBreak g image ino rule block
