-- What is put into a leaf that is written anew, a piece at a time.
use Rattle.std.specs.Prelude.{◌≡◌, ℕ, ◌+◌, ◌-◌, ◌*◌, ◌<◌, List, length, take, get_or, slice_range, sum_by}
use Rattle.xn_bytes.specs.declared.attribute.Attribute.{Attribute}
use Rattle.xn_bytes.specs.declared.attribute.Value.{Value}
use Rattle.xn_bytes.specs.declared.attribute.Value.TheVariants.{Here, Remote}
use Rattle.xn_bytes.specs.Numbers.{number_at}
use Rattle.xn_bytes.specs.Attributes.{attribute_hash}
use Rattle.xn_bytes.specs.AttributeLeaves.{AttrEntry, attr_entry_at, attr_leaf_magic, attribute_at, name_size, value_size}

-- the bytes of a block outside of a piece stay
pub record KeepsAround (from to : ℕ) (old new : List ℕ) : Type 0 where
  pub whole : length new ≡ length old
  pub before : slice_range new 0 from ≡ slice_range old 0 from
  pub behind : slice_range new to 4096 ≡ slice_range old to 4096

-- ---- one attribute

-- the bit of an entry's flags that says that the value stands beside the name
abbrev pub local_bit : Value → ℕ
local_bit (Here value) = 1
local_bit (Remote block size) = 0

-- how many bytes name and value of an attribute take
abbrev pub name_bytes : Attribute → ℕ
name_bytes attribute = value_size (length attribute.name) attribute.value

-- the entry of an attribute whose name stands at a place
abbrev pub entry_of : ℕ → Attribute → AttrEntry
entry_of place attribute = record { hash = attribute_hash attribute; place = place; flags = attribute.flags + local_bit attribute.value }

-- name and value of an attribute stand at a place
pub record HasName (place : ℕ) (bytes : List ℕ) (attribute : Attribute) : Type 0 where
  pub is : attribute_at bytes (entry_of place attribute) ≡ attribute
  pub size : name_size bytes (entry_of place attribute) ≡ name_bytes attribute

-- an entry was put at the place of an index, and all else stays
pub record PutsEntry (index : ℕ) (old new : List ℕ) (entry : AttrEntry) : Type 0 where
  pub there : attr_entry_at (80 + 8 * index) new ≡ entry
  pub around : KeepsAround (80 + 8 * index) (80 + 8 * index + 8) old new

-- a name was put with its length in front, and all else stays
pub record PutsText (at : ℕ) (old new name : List ℕ) : Type 0 where
  pub size : number_at 1 at new ≡ length name
  pub text : slice_range new (at + 1) (at + 1 + length name) ≡ name
  pub around : KeepsAround at (at + 1 + length name) old new

-- a name with its value was put between two places, and all else stays
pub record PutsLocal (place end : ℕ) (old new name value : List ℕ) : Type 0 where
  pub value_size : number_at 2 place new ≡ length value
  pub name_size : number_at 1 (place + 2) new ≡ length name
  pub text : slice_range new (place + 3) (place + 3 + length name) ≡ name
  pub bytes : slice_range new (place + 3 + length name) (place + 3 + length name + length value) ≡ value
  pub around : KeepsAround place end old new

-- a name whose value stands elsewhere was put between two places, and all else stays
pub record PutsRemote (place end first size : ℕ) (old new name : List ℕ) : Type 0 where
  pub value_block : number_at 4 place new ≡ first
  pub value_size : number_at 4 (place + 4) new ≡ size
  pub name_size : number_at 1 (place + 8) new ≡ length name
  pub text : slice_range new (place + 9) (place + 9 + length name) ≡ name
  pub around : KeepsAround place end old new

-- name and value of an attribute were put between two places, and all else stays
pub record PutsName (place end : ℕ) (old new : List ℕ) (attribute : Attribute) : Type 0 where
  pub there : HasName place new attribute
  pub around : KeepsAround place end old new

-- An attribute was put: its entry at the place of an index, and its name so that it ends at a place. What stands before that
-- entry stays, and what stands from the end of the name on.
pub record PutsAttribute (index place end : ℕ) (old new : List ℕ) (attribute : Attribute) : Type 0 where
  pub whole : length new ≡ length old
  pub size : place + name_bytes attribute ≡ end
  pub entry : attr_entry_at (80 + 8 * index) new ≡ entry_of place attribute
  pub name : HasName place new attribute
  pub before : slice_range new 0 (80 + 8 * index) ≡ slice_range old 0 (80 + 8 * index)
  pub behind : slice_range new end 4096 ≡ slice_range old end 4096

-- ---- all of them

-- where the name of the attribute before an index begins: each one ends where the one before begins, the first at the end of
-- the block
abbrev pub place_before : List Attribute → ℕ → ℕ
place_before attributes index = 4096 - sum_by name_bytes (take index attributes)

-- the attribute of an index stands there, with its entry
pub record Stands (bytes : List ℕ) (attributes : List Attribute) (index : ℕ) (attribute : Attribute) : Type 0 where
  pub entry : attr_entry_at (80 + 8 * index) bytes ≡ entry_of (place_before attributes (index + 1)) attribute
  pub name : HasName (place_before attributes (index + 1)) bytes attribute

-- the first so many of attributes were put, and the header stays
pub record PutsFirst (count : ℕ) (old new : List ℕ) (attributes : List Attribute) : Type 0 where
  pub whole : length new ≡ length old
  pub each : (index : ℕ) → index < count → (d : Attribute) → Stands new attributes index (get_or attributes index d)
  pub before : slice_range new 0 80 ≡ slice_range old 0 80

-- attributes were put behind the header, which stays
abbrev pub PutsAttributes : List ℕ → List ℕ → List Attribute → Type 0
PutsAttributes old new attributes = PutsFirst (length attributes) old new attributes

-- the header tells the free bytes: one piece, from the end of the entries to the first of the names, and no holes among those
pub record TellsFree (bytes : List ℕ) : Type 0 where
  pub no_holes : number_at 2 62 bytes ≡ 0
  pub base : number_at 2 64 bytes ≡ 80 + 8 * number_at 2 56 bytes
  pub size : number_at 2 64 bytes + number_at 2 66 bytes ≡ number_at 2 60 bytes

-- The header's own fields were put: the magic number, how many entries there are, where their names begin and how many bytes
-- they take, and the free bytes between. Siblings, place, uuid and owner stay, and what stands behind the header.
pub record PutsHeader (count first : ℕ) (old new : List ℕ) : Type 0 where
  pub whole : length new ≡ length old
  pub magic : number_at 2 8 new ≡ attr_leaf_magic
  pub entries : number_at 2 56 new ≡ count
  pub used : number_at 2 58 new ≡ 4096 - first
  pub names : number_at 2 60 new ≡ first
  pub free : TellsFree new
  pub siblings : slice_range new 0 8 ≡ slice_range old 0 8
  pub place : slice_range new 16 56 ≡ slice_range old 16 56
  pub body : slice_range new 80 4096 ≡ slice_range old 80 4096

-- The counts of a header were put, without holes among the names, and all else stays.
pub record PutsCounts (count first : ℕ) (old new : List ℕ) : Type 0 where
  pub entries : number_at 2 56 new ≡ count
  pub used : number_at 2 58 new ≡ 4096 - first
  pub names : number_at 2 60 new ≡ first
  pub no_holes : number_at 2 62 new ≡ 0
  pub around : KeepsAround 56 64 old new

-- The map of free bytes was put, which has one piece, and all else stays.
pub record PutsFreeMap (base first : ℕ) (old new : List ℕ) : Type 0 where
  pub behind : number_at 2 64 new ≡ base
  pub size : number_at 2 66 new ≡ first - base
  pub around : KeepsAround 64 80 old new
