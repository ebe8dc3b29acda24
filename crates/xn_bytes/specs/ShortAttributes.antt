-- Attributes in short form: they stand in the inode's attribute fork (`struct xfs_attr_sf_hdr` and `xfs_attr_sf_entry` of
-- `xfs_da_format.h`). The fork has bytes behind them, which are free.
use Rattle.std.specs.Prelude.{◌≡◌, ℕ, zero, suc, ◌+◌, ◌^◌, ◌<◌, Bool, true, ◌==◌, ◌&&◌, nat_lt, nat_le, not, if◌then◌else◌, List, [], ◌∷◌, ◌++◌, length, drop, map, slice_index, slice_range, sum_by, flat_map, All, Option, Some, None}
use Rattle.byteorder.specs.Endian.{big_bytes}
use Rattle.xn_bytes.specs.Numbers.{number_at}
use Rattle.xn_bytes.specs.declared.attribute.Attribute.{Attribute}
use Rattle.xn_bytes.specs.declared.attribute.Value.TheVariants.{Here}
use Rattle.xn_bytes.specs.Attributes.{without_local}

-- ---- how they are spelled

-- An attribute as it stands there: its flags with the lowest bit, which is not looked at.
pub record ShortAttribute : Type 0 where
  pub flags : ℕ
  pub name : List ℕ
  pub value : List ℕ

-- the byte behind the count, which is free, and the attributes in order
pub record ShortAttributes : Type 0 where
  pub padding : ℕ
  pub attributes : List ShortAttribute

-- how many bytes an attribute takes: three, its name, its value
abbrev pub short_attribute_size : ShortAttribute → ℕ
short_attribute_size attribute = 3 + length attribute.name + length attribute.value

-- how many bytes all take, with the four in front
abbrev pub short_attributes_size : List ShortAttribute → ℕ
short_attributes_size attributes = 4 + sum_by short_attribute_size attributes

-- the length of the name, that of the value, flags, name, value
abbrev pub short_attribute_spelling : ShortAttribute → List ℕ
short_attribute_spelling attribute =
    length attribute.name ∷ length attribute.value ∷ attribute.flags ∷ (attribute.name ++ attribute.value)

-- total size, count, padding, attributes
abbrev pub short_attributes_spelling : ShortAttributes → List ℕ
short_attributes_spelling form =
    big_bytes 2 (short_attributes_size form.attributes) ++ length form.attributes ∷ form.padding ∷ flat_map short_attribute_spelling form.attributes

-- the bytes of name and value, and lengths and flags that have their fields
pub record FitsShortAttribute (attribute : ShortAttribute) : Type 0 where
  pub name : length attribute.name < 256
  pub value : length attribute.value < 256
  pub flags : attribute.flags < 256
  pub name_bytes : All (λ byte. byte < 256) attribute.name
  pub value_bytes : All (λ byte. byte < 256) attribute.value

-- its fields have room for the form
pub record IsShortAttributes (form : ShortAttributes) : Type 0 where
  pub count : length form.attributes < 256
  pub size : short_attributes_size form.attributes < 2 ^ 16
  pub padding : form.padding < 256
  pub fit : All FitsShortAttribute form.attributes

-- the attribute that stands there
abbrev pub attribute_of_short : ShortAttribute → Attribute
attribute_of_short attribute =
    record { flags = without_local attribute.flags; name = attribute.name; value = Here attribute.value }

-- Rule 24: the fork begins with the spelling of a form that has these attributes.
pub record ShortAttributesHold (fork : List ℕ) (attributes : List Attribute) : Type 0 where
  pub form : ShortAttributes
  pub lawful : IsShortAttributes form
  pub rest : List ℕ
  pub spelled : fork ≡ short_attributes_spelling form ++ rest
  pub are : attributes ≡ map attribute_of_short form.attributes

-- ---- the earliest place at which a fork fails

-- how many bytes the attribute at the front takes, by the two lengths
abbrev pub front_size : List ℕ → ℕ
front_size rest = 3 + slice_index rest 0 + slice_index rest 1

-- the attribute at the front
abbrev pub front_attribute : List ℕ → ShortAttribute
front_attribute rest = record {
  flags = slice_index rest 2;
  name = slice_range rest 3 (3 + slice_index rest 0);
  value = slice_range rest (3 + slice_index rest 0) (front_size rest);
}

-- the attributes at the front
unfoldable pub attributes_in : ℕ → List ℕ → List ShortAttribute
attributes_in zero rest = []
attributes_in (suc count) rest = front_attribute rest ∷ attributes_in count (drop (front_size rest) rest)

-- whether the bytes of so many attributes are all there
unfoldable pub attributes_there : ℕ → List ℕ → Bool
attributes_there zero rest = true
attributes_there (suc count) rest =
    nat_le 3 (length rest) && nat_le (front_size rest) (length rest) && attributes_there count (drop (front_size rest) rest)

-- The earliest place at which a fork fails: that of the first byte that is missing; or, where all attributes are there, that
-- of the total size, which is another than theirs.
unfoldable pub short_attributes_fault : List ℕ → Option ℕ
short_attributes_fault fork =
    if nat_lt (length fork) 4 then Some (length fork)
    else if not (attributes_there (slice_index fork 2) (drop 4 fork)) then Some (length fork)
    else if not (number_at 2 0 fork == short_attributes_size (attributes_in (slice_index fork 2) (drop 4 fork))) then Some 0
    else None
