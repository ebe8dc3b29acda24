-- The parent records of an inode: the attributes with the parent flag, each of which names an entry that names the inode
-- (`struct xfs_parent_rec` of `xfs_da_format.h`).
use Rattle.std.specs.Prelude.{◌≡◌, ◌≢◌, ◌⊎◌, ℕ, ◌<◌, false, List, [], length, map, filter, All, AllPairs, IsPermutation}
use Rattle.std.specs.List.{AllAdjacentBelow}
use Rattle.std.specs.Ordering.{nat_cmp}
use Rattle.std.specs.Cmp.Lexicographic.{slice_cmp}
use Rattle.std.specs.declared.cmp.Ordering.TheVariants.{Less}
use Rattle.xn_bytes.specs.Numbers.{number_at}
use Rattle.xn_bytes.specs.Names.{IsName}
use Rattle.xn_bytes.specs.Superblock.{Geometry}
use Rattle.xn_bytes.specs.declared.attribute.Attribute.{Attribute}
use Rattle.xn_bytes.specs.declared.attribute.Value.{Value}
use Rattle.xn_bytes.specs.declared.attribute.Value.TheVariants.{Here, Remote}
use Rattle.xn_bytes.specs.Attributes.{is_parent, is_incomplete, parent_value_size}
use Rattle.xn_bytes.specs.Parents.{ParentRecord}
use Rattle.xn_bytes.specs.AttributeForks.{AttrHolds, AttrBreaks, HasOwnInode}
use Rattle.xn_bytes.specs.Inode.{inode_of}

-- the bytes of a value that stands beside its name
abbrev pub bytes_here : Value → List ℕ
bytes_here (Here value) = value
bytes_here (Remote block size) = []

-- the record that an attribute spells: its name, and in its value the directory's number in 8 bytes and its generation in 4
abbrev pub record_in : Attribute → ParentRecord
record_in attribute = record {
  dir = number_at 8 0 (bytes_here attribute.value);
  generation = number_at 4 8 (bytes_here attribute.value);
  name = attribute.name;
}

-- A parent record is well formed: 12 bytes beside a name that an entry can have, and no change of it is left unended.
pub record IsRecord (attribute : Attribute) : Type 0 where
  pub value : (bytes : List ℕ) × (attribute.value ≡ Here bytes) × (length bytes ≡ parent_value_size)
  pub complete : is_incomplete attribute.flags ≡ false
  pub name : IsName attribute.name

-- the attributes with the parent flag
abbrev pub parents_among : List Attribute → List Attribute
parents_among attributes = filter (λ attribute. is_parent attribute.flags) attributes

-- Rule 26: parent records are well formed, and none stands twice.
pub record HasRecords (attributes : List Attribute) : Type 0 where
  pub formed : All IsRecord (parents_among attributes)
  pub once : AllPairs (λ a b. a ≢ b) (map record_in (parents_among attributes))

-- the parent records of an inode of an image, in the order in which they stand
pub record IsParentsOf (g : Geometry) (image : List ℕ) (ino : ℕ) (records : List ParentRecord) : Type 0 where
  pub attributes : List Attribute
  pub holds : AttrHolds g image ino attributes
  pub right : HasRecords attributes
  pub are : records ≡ map record_in (parents_among attributes)

-- the least of the rules 10, 11, 13 and 24 to 26 that an inode breaks, and the block that it names
abbrev pub ParentsBreak : Geometry → List ℕ → ℕ → ℕ → ℕ → Type 0
ParentsBreak g image ino rule block =
    AttrBreaks g image ino rule block
    ⊎ ((rule ≡ 26) × (block ≡ 0) × HasOwnInode g (inode_of g image ino) ino
    × ((attributes : List Attribute) × AttrHolds g image ino attributes × ¬ HasRecords attributes))

-- ---- in order

-- one record comes before another: by the number of the directory, then by the bytes of the name, then by the generation
abbrev pub IsBefore : ParentRecord → ParentRecord → Type 0
IsBefore a b =
    (a.dir < b.dir)
    ⊎ ((a.dir ≡ b.dir) × (slice_cmp nat_cmp a.name b.name ≡ Less))
    ⊎ ((a.dir ≡ b.dir) × (a.name ≡ b.name) × (a.generation < b.generation))

-- the same records in this order, each once
pub record IsOrdered (records sorted : List ParentRecord) : Type 0 where
  pub same : IsPermutation records sorted
  pub rising : AllAdjacentBelow IsBefore sorted (length sorted)

-- the parent records of an inode of which rules 10, 11, 13 and 24 to 26 hold, by directory, then by name
pub record ListsParents (g : Geometry) (image : List ℕ) (ino : ℕ) (sorted : List ParentRecord) : Type 0 where
  pub inode : HasOwnInode g (inode_of g image ino) ino
  pub records : List ParentRecord
  pub parents : IsParentsOf g image ino records
  pub ordered : IsOrdered records sorted
