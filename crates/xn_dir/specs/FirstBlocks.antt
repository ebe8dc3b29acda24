-- The first block of a directory in block form, part by part.
use Rattle.std.specs.Prelude.{◌≡◌, ℕ, Bool, List}
use Rattle.xn_bytes.specs.declared.kind.Kind.{Kind}
use Rattle.xn_bytes.specs.declared.kind.Kind.TheVariants.{Dir}
use Rattle.xn_bytes.specs.Superblock.{Geometry, sector_of_block}
use Rattle.xn_bytes.specs.DataBlock.{DataForm}

-- an entry of kind directory with this name in this place
pub record IsDots (name : List ℕ) (kind : Kind) (position : ℕ) (wanted : List ℕ) (place : ℕ) : Type 0 where
  pub named : name ≡ wanted
  pub is_directory : kind ≡ Dir
  pub stands : position ≡ place

-- of the wanted kind, in the place that it names, with the filesystem's uuid and its owner
pub record IsOwn (g : Geometry) (dir : ℕ) (is_block_form : Bool) (block : ℕ) (form : DataForm) : Type 0 where
  pub magic : form.is_block_form ≡ is_block_form
  pub place : form.place ≡ sector_of_block g block
  pub owner : form.owner ≡ dir
  pub uuid : form.uuid ≡ g.meta_uuid
