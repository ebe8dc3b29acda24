-- What a directory's inode says of its form.
use Rattle.std.specs.Prelude.{◌≡◌, ℕ, List, Option, Some, None}
use Rattle.xn_bytes.specs.declared.kind.Kind.TheVariants.{Dir}
use Rattle.xn_bytes.specs.Numbers.{number_at}
use Rattle.xn_bytes.specs.Kinds.{kind_of_mode}
use Rattle.xn_bytes.specs.Superblock.{Geometry}
use Rattle.xn_bytes.specs.Inode.{CoreFields, CoreHolds, HasCore, HasBothForks, local_format, extents_format}
use Rattle.xn_bytes.specs.Extents.{Run}
use Rattle.xn_bytes.specs.DirectoryForms.{HasExtentLists, IsBlockForm, data_runs_of}
use Rattle.xn_bytes.specs.LeafForms.{IsInBlocks}
use Rattle.xn_dir.specs.declared.form.Form.{Form}
use Rattle.xn_dir.specs.declared.form.Form.TheVariants as forms

-- the inode is that of a directory
abbrev pub IsDirectory : List ℕ → Type 0
IsDirectory inode = kind_of_mode (number_at 2 2 inode) ≡ Some Dir

-- rules 10, 11 and 13 hold, and these are the core's fields
pub record IsSoundInode (g : Geometry) (dir : ℕ) (inode : List ℕ) (core : CoreFields) : Type 0 where
  pub sound : HasCore inode dir g.meta_uuid
  pub forks : HasBothForks g inode dir
  pub fields : CoreHolds inode core
  pub lists : HasExtentLists g inode

-- short form, block form with its one block, or leaf or node form
abbrev pub IsOfForm : List ℕ → Form → Type 0
IsOfForm inode forms.Short = number_at 1 5 inode ≡ local_format
IsOfForm inode (forms.Block block) = (number_at 1 5 inode ≡ extents_format) × IsBlockForm (data_runs_of inode) block
IsOfForm inode forms.Hashed = IsInBlocks inode

-- the one block that a list of extents maps, where it maps file block 0 alone
abbrev pub IsOnlyBlock : List Run → Option ℕ → Type 0
IsOnlyBlock runs None = (block : ℕ) → ¬ IsBlockForm runs block
IsOnlyBlock runs (Some block) = IsBlockForm runs block
