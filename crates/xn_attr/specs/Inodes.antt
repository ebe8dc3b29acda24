-- What an inode says of the form of its attributes.
use Rattle.std.specs.Prelude.{◌≡◌, ◌≢◌, ℕ, ◌/◌, true, List, length}
use Rattle.xn_bytes.specs.Superblock.{Geometry}
use Rattle.xn_bytes.specs.Inode.{CoreFields, CoreHolds, local_format, attr_fork_of}
use Rattle.xn_bytes.specs.AttributeForks.{HasNoAttrFork, HasOwnInode, IsEmptyFork, IsShortFork, IsTreeFork, attr_runs_of}
use Rattle.xn_datree.specs.declared.fork.Fork.{Fork}
use Rattle.xn_attr.specs.declared.form.Form.{Form}
use Rattle.xn_attr.specs.declared.form.Form.TheVariants.{Absent, Short, Empty, Tree}

-- rules 10, 11 and 13 hold, and these are the core's fields
pub record IsSoundInode (g : Geometry) (ino : ℕ) (inode : List ℕ) (core : CoreFields) : Type 0 where
  pub own : HasOwnInode g inode ino
  pub fields : CoreHolds inode core

-- the form of an inode's attributes
abbrev pub IsOfForm : List ℕ → Form → Type 0
IsOfForm inode Absent = HasNoAttrFork inode
IsOfForm inode Short = IsShortFork inode
IsOfForm inode Empty = IsEmptyFork inode
IsOfForm inode Tree = IsTreeFork inode

-- the same by the core's fields, where the fork's format is one of the two
abbrev pub IsFormBy : CoreFields → Form → Type 0
IsFormBy core Absent = core.fork_offset ≡ 0
IsFormBy core Short = (core.fork_offset ≢ 0) × (core.attr_format ≡ local_format)
IsFormBy core Empty = (core.fork_offset ≢ 0) × (core.attr_format ≢ local_format) × (core.attr_extents ≡ 0)
IsFormBy core Tree = (core.fork_offset ≢ 0) × (core.attr_format ≢ local_format) × (core.attr_extents ≢ 0)

-- the attribute fork of this inode
pub record IsForkOf (ino : ℕ) (inode : List ℕ) (fork : Fork) : Type 0 where
  pub is_attribute : fork.attribute ≡ true
  pub owner : fork.owner ≡ ino
  pub root : fork.root ≡ 0
  pub runs : fork.extents ≡ attr_runs_of inode
  pub room : fork.room ≡ length (attr_fork_of inode) / 16
