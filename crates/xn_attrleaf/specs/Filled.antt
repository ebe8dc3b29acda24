-- Which attributes a leaf can hold, and what one that is written anew keeps.
use Rattle.std.specs.Prelude.{◌≡◌, ◌≢◌, ℕ, ◌%◌, ◌≤◌, List, length}
use Rattle.xn_bytes.specs.declared.attribute.Attribute.{Attribute}
use Rattle.xn_bytes.specs.declared.attribute.Value.{Value}
use Rattle.xn_bytes.specs.declared.attribute.Value.TheVariants.{Here, Remote}
use Rattle.xn_bytes.specs.Numbers.{number_at}
use Rattle.xn_bytes.specs.HashedTree.{single_leaf_magic}
use Rattle.xn_bytes.specs.Attributes.{attribute_hash}
use Rattle.xn_bytes.specs.AttributeLeaves.{AttrLeafHolds, attr_leaf_ends}
use Rattle.xn_datree.specs.Leaves.{KeepsHeader, ends_of_list}

-- a value whose length has its field, where it stands beside the name
abbrev pub FitsValue : Value → Type 0
FitsValue (Here value) = length value ≤ 65535
FitsValue (Remote block size) = Unit {0}

-- an attribute that a leaf can hold
pub record IsLawfulAttribute (attribute : Attribute) : Type 0 where
  pub no_local_bit : attribute.flags % 2 ≡ 0
  pub name : length attribute.name ≤ 255
  pub value : FitsValue attribute.value

-- a block was made a leaf with these attributes, as every leaf of a tree is filled
pub record IsFilled (old new : List ℕ) (attributes : List Attribute) : Type 0 where
  pub holds : AttrLeafHolds new attributes
  pub ends : attr_leaf_ends new ≡ ends_of_list attribute_hash attributes
  pub tree : number_at 2 8 new ≢ single_leaf_magic
  pub header : KeepsHeader old new
