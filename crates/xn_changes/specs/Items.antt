-- Items of a transaction by their regions: which they are, and which this project knows (`struct xfs_inode_log_format`,
-- `xfs_buf_log_format`, `xfs_attri_log_format` and `xfs_attrd_log_format` of `xfs_log_format.h`). Their numbers have the lowest byte
-- first; those of a parent record's value the highest.
use Rattle.std.specs.Prelude.{ℕ, zero, suc, ◌+◌, ◌-◌, ◌*◌, ◌/◌, ◌%◌, ◌^◌, Bool, true, false, ◌==◌, not, ◌&&◌, ◌||◌, nat_lt, nat_le, if◌then◌else◌, List, [], ◌∷◌, ◌++◌, length, take, drop, Option, Some, None, Result, Ok, Err, bit_and, bytes_eq}
use Rattle.std.specs.List.{list_any}
use Rattle.xn_bytes.specs.Numbers.{number_at, little_number_at}
use Rattle.xn_items.specs.declared.parent.ParentRec.{ParentRec}
use Rattle.xn_changes.specs.declared.intent.Act.{Act}
use Rattle.xn_changes.specs.declared.intent.Act.TheVariants.{Set, Remove, Replace}
use Rattle.xn_changes.specs.declared.item.Item.{Item}
use Rattle.xn_changes.specs.declared.item.Item.TheVariants.{Buffer, Inode, Done, Intent as Asks}
use Rattle.xn_changes.specs.declared.item.BufferItem.{BufferItem}
use Rattle.xn_changes.specs.declared.item.InodeItem.{InodeItem}

-- Why an item is none that this project carries out: it doesn't know it, or the item is not as the format says.
pub data Reason : Type 0 where
  Foreign : Reason
  Malformed : Reason

-- an item, and how many regions it has behind the first
pub record Taken : Type 0 where
  pub item : Item
  pub behind : ℕ

-- the item that follows from the facts, or else a malformed one
abbrev pub if_lawful : Bool → Taken → Result Taken Reason
if_lawful lawful taken = if lawful then Ok taken else Err Malformed

-- what the first region says at its front: which item it is, and how many regions it has

abbrev pub type_in : List ℕ → ℕ
type_in first = little_number_at 2 0 first

abbrev pub regions_said : List ℕ → ℕ
regions_said first = little_number_at 2 2 first

abbrev pub inode_type : ℕ
inode_type = 0x123b

abbrev pub buffer_type : ℕ
buffer_type = 0x123c

abbrev pub intent_type : ℕ
intent_type = 0x1246

abbrev pub done_type : ℕ
done_type = 0x1247

-- the region at a place among those behind the first, none of no bytes
abbrev pub region_at : ℕ → List (List ℕ) → List ℕ
region_at k [] = []
region_at zero (region ∷ rest) = region
region_at (suc k) (region ∷ rest) = region_at k rest

-- so many regions are there
abbrev pub are_there : ℕ → List (List ℕ) → Bool
are_there count rest = nat_le count (length rest)

-- ---- inodes

-- which of core (1), data fork (2 local, 4 extents) and attribute fork (0x40 local, 0x80 extents) are logged
abbrev pub fields_in : List ℕ → ℕ
fields_in first = little_number_at 4 4 first

abbrev pub known_fields : ℕ
known_fields = 0xc7

abbrev pub has_field : ℕ → ℕ → Bool
has_field fields bit = fields / 2 ^ bit % 2 == 1

abbrev pub has_core : ℕ → Bool
has_core fields = has_field fields 0

abbrev pub has_data_fork : ℕ → Bool
has_data_fork fields = has_field fields 1 || has_field fields 2

abbrev pub has_attribute_fork : ℕ → Bool
has_attribute_fork fields = has_field fields 6 || has_field fields 7

abbrev pub one_if : Bool → ℕ
one_if true = 1
one_if false = 0

-- how many regions stand behind the first: the core and the forks
abbrev pub inode_regions : ℕ → ℕ
inode_regions fields = 1 + one_if (has_data_fork fields) + one_if (has_attribute_fork fields)

abbrev pub core_size : ℕ
core_size = 176

-- a region that is there only where it is logged
abbrev pub fork_at : Bool → ℕ → List (List ℕ) → Option (List ℕ)
fork_at logged k rest = if logged then Some (region_at k rest) else None

abbrev pub inode_item_in : List ℕ → List (List ℕ) → InodeItem
inode_item_in first rest =
    let fields = fields_in first in
    record {
      fields = fields;
      number = little_number_at 8 16 first;
      sector = little_number_at 8 40 first;
      length = little_number_at 4 48 first;
      offset = little_number_at 4 52 first;
      core = region_at 0 rest;
      data_fork = fork_at (has_data_fork fields) 1 rest;
      attr_fork = fork_at (has_attribute_fork fields) (1 + one_if (has_data_fork fields)) rest;
    }

-- the first region has 56 bytes, the core is logged with 176, and all regions are there that it says
abbrev pub is_lawful_inode : List ℕ → List (List ℕ) → Bool
is_lawful_inode first rest =
    (length first == 56) && has_core (fields_in first) && (regions_said first == 1 + inode_regions (fields_in first))
    && are_there (inode_regions (fields_in first)) rest && (length (region_at 0 rest) == core_size)

-- the inode's fields are none but those that are known
abbrev pub knows_fields : List ℕ → Bool
knows_fields first = bit_and (fields_in first) known_fields == fields_in first

abbrev pub take_inode : List ℕ → List (List ℕ) → Result Taken Reason
take_inode first rest =
    if nat_lt (length first) 8 then Err Malformed
    else if not (knows_fields first) then Err Foreign
    else if_lawful (is_lawful_inode first rest) (record { item = Inode (inode_item_in first rest); behind = inode_regions (fields_in first) })

-- ---- buffers

abbrev pub buffer_flags_in : List ℕ → ℕ
buffer_flags_in first = little_number_at 2 4 first

-- the buffer is not to be carried out any more, nor are those before it on the same sectors
abbrev pub is_cancelled : ℕ → Bool
is_cancelled flags = flags / 2 % 2 == 1

-- what kind of block it is
abbrev pub buffer_kind : ℕ → ℕ
buffer_kind flags = flags / 2 ^ 11 % 32

-- directory block 10, data 11, free index 12, single leaf 13, leaf 14, node 15, attribute leaf 16
abbrev pub knows_kind : ℕ → Bool
knows_kind kind = nat_le 10 kind && nat_le kind 16

-- how many words the map has
abbrev pub map_words_said : List ℕ → ℕ
map_words_said first = little_number_at 4 16 first

-- so many words from a place on
unfoldable pub words_from : ℕ → ℕ → List ℕ → List ℕ
words_from at zero first = []
words_from at (suc count) first = little_number_at 4 at first ∷ words_from (at + 4) count first

abbrev pub map_in : List ℕ → List ℕ
map_in first = words_from 20 (map_words_said first) first

-- the first region has just its fields and its map
abbrev pub is_lawful_format : List ℕ → Bool
is_lawful_format first = length first == 20 + 4 * map_words_said first

-- the set bits of a word, each as a piece's number, the lowest bit being that of the piece with the number `from`
unfoldable pub pieces_of_word : ℕ → ℕ → ℕ → List ℕ
pieces_of_word from zero word = []
pieces_of_word from (suc count) word =
    (if word % 2 == 1 then from ∷ [] else []) ++ pieces_of_word (suc from) count (word / 2)

-- the numbers of the pieces whose bits are set, rising
unfoldable pub pieces_from : ℕ → List ℕ → List ℕ
pieces_from from [] = []
pieces_from from (word ∷ words) = pieces_of_word from 32 word ++ pieces_from (from + 32) words

abbrev pub pieces_in : List ℕ → List ℕ
pieces_in words = pieces_from 0 words

-- the bytes of a piece
abbrev pub piece_size : ℕ
piece_size = 128

-- the numbers count up by one, from this one on
abbrev pub count_up : ℕ → List ℕ → Bool
count_up from [] = true
count_up from (piece ∷ pieces) = (piece == from) && count_up (suc from) pieces

-- so many at the front are there, and neighbours
abbrev pub are_neighbours : ℕ → List ℕ → Bool
are_neighbours count [] = false
are_neighbours count (piece ∷ pieces) = nat_le count (length (piece ∷ pieces)) && count_up piece (take count (piece ∷ pieces))

-- Each region covers pieces that are neighbours, one at least, and all together cover these in order.
unfoldable pub cover : List (List ℕ) → List ℕ → Bool
cover [] [] = true
cover [] (piece ∷ pieces) = false
cover (region ∷ regions) pieces =
    (length region % piece_size == 0) && nat_lt 0 (length region)
    && are_neighbours (length region / piece_size) pieces && cover regions (drop (length region / piece_size) pieces)

-- no piece is past the buffer, which has four in a sector
abbrev pub are_within : ℕ → List ℕ → Bool
are_within sectors pieces = not (list_any (λ piece. nat_le (4 * sectors) piece) pieces)

abbrev pub buffer_length_in : List ℕ → ℕ
buffer_length_in first = little_number_at 2 6 first

-- the regions behind the first
abbrev pub buffer_regions : List ℕ → List (List ℕ) → List (List ℕ)
buffer_regions first rest = take (regions_said first - 1) rest

abbrev pub buffer_item_in : List ℕ → List (List ℕ) → BufferItem
buffer_item_in first regions = record {
  flags = buffer_flags_in first;
  length = buffer_length_in first;
  sector = little_number_at 8 8 first;
  map = map_in first;
  regions = regions;
}

-- all regions are there, and cover the pieces of the map, none of which is past the buffer
abbrev pub is_lawful_buffer : List ℕ → List (List ℕ) → Bool
is_lawful_buffer first rest =
    is_lawful_format first && nat_le 1 (regions_said first) && are_there (regions_said first - 1) rest
    && cover (buffer_regions first rest) (pieces_in (map_in first)) && are_within (buffer_length_in first) (pieces_in (map_in first))

-- a buffer that cancels has its first region alone, with any map and of any kind
abbrev pub take_cancelled : List ℕ → List (List ℕ) → Result Taken Reason
take_cancelled first rest =
    if_lawful (is_lawful_format first && (regions_said first == 1)) (record { item = Buffer (buffer_item_in first []); behind = 0 })

abbrev pub take_buffer : List ℕ → List (List ℕ) → Result Taken Reason
take_buffer first rest =
    if nat_lt (length first) 6 then Err Malformed
    else if is_cancelled (buffer_flags_in first) then take_cancelled first rest
    else if not (knows_kind (buffer_kind (buffer_flags_in first))) then Err Foreign
    else if_lawful (is_lawful_buffer first rest) (record { item = Buffer (buffer_item_in first (buffer_regions first rest)); behind = regions_said first - 1 })

-- ---- intents on parent records

-- what is to be done: set 4, remove 5, replace 6
abbrev pub op_in : List ℕ → ℕ
op_in first = little_number_at 4 24 first

abbrev pub set_op : ℕ
set_op = 4

abbrev pub remove_op : ℕ
remove_op = 5

abbrev pub replace_op : ℕ
replace_op = 6

abbrev pub knows_op : ℕ → Bool
knows_op op = nat_le set_op op && nat_le op replace_op

-- attributes of parents
abbrev pub parent_filter : ℕ
parent_filter = 8

-- a parent record's value: the directory's number in 8 bytes, its generation in 4
abbrev pub parent_value_length : ℕ
parent_value_length = 12

-- a name stands in a region of as many bytes, rounded up to 4
abbrev pub rounded : ℕ → ℕ
rounded bytes = (bytes + 3) / 4 * 4

-- bytes that are a name of a directory's entry
abbrev pub is_name_text : List ℕ → Bool
is_name_text bytes =
    nat_lt 0 (length bytes) && nat_le (length bytes) 255 && not (list_any (λ byte. (byte == 0) || (byte == 47)) bytes)
    && not (bytes_eq bytes (46 ∷ [])) && not (bytes_eq bytes (46 ∷ 46 ∷ []))

-- a region holds a name of so many bytes
abbrev pub holds_name : ℕ → List ℕ → Bool
holds_name bytes region = (length region == rounded bytes) && is_name_text (take bytes region)

abbrev pub holds_value : List ℕ → Bool
holds_value region = length region == parent_value_length

-- the parent record with a name of so many bytes
abbrev pub parent_in : ℕ → List ℕ → List ℕ → ParentRec
parent_in bytes name value = record {
  dir = number_at 8 0 value;
  generation = number_at 4 8 value;
  name = take bytes name;
}

-- the length of the name of a set or a remove, and the two lengths of a replace, the old one first

abbrev pub name_length_in : List ℕ → ℕ
name_length_in first = little_number_at 4 28 first

abbrev pub old_length_in : List ℕ → ℕ
old_length_in first = little_number_at 2 28 first

abbrev pub new_length_in : List ℕ → ℕ
new_length_in first = little_number_at 2 30 first

-- what all three have: 40 bytes, values of a parent record's length, the filter, and so many regions
abbrev pub is_lawful_intent_format : ℕ → List ℕ → List (List ℕ) → Bool
is_lawful_intent_format regions first rest =
    (length first == 40) && (little_number_at 4 32 first == parent_value_length) && (little_number_at 4 36 first == parent_filter)
    && (regions_said first == regions) && are_there (regions - 1) rest

-- a set or a remove: the format, a name and a value
abbrev pub is_lawful_one : List ℕ → List (List ℕ) → Bool
is_lawful_one first rest =
    is_lawful_intent_format 3 first rest && holds_name (name_length_in first) (region_at 0 rest) && holds_value (region_at 1 rest)

abbrev pub one_parent_in : List ℕ → List (List ℕ) → ParentRec
one_parent_in first rest = parent_in (name_length_in first) (region_at 0 rest) (region_at 1 rest)

-- a replace: the format, the old name and the new one, the old value and the new one
abbrev pub is_lawful_replace : List ℕ → List (List ℕ) → Bool
is_lawful_replace first rest =
    is_lawful_intent_format 5 first rest
    && holds_name (old_length_in first) (region_at 0 rest) && holds_name (new_length_in first) (region_at 1 rest)
    && holds_value (region_at 2 rest) && holds_value (region_at 3 rest)

abbrev pub old_parent_in : List ℕ → List (List ℕ) → ParentRec
old_parent_in first rest = parent_in (old_length_in first) (region_at 0 rest) (region_at 2 rest)

abbrev pub new_parent_in : List ℕ → List (List ℕ) → ParentRec
new_parent_in first rest = parent_in (new_length_in first) (region_at 1 rest) (region_at 3 rest)

abbrev pub intent_with : List ℕ → Act → Item
intent_with first act = Asks (record {
  id = little_number_at 8 8 first;
  ino = little_number_at 8 16 first;
  generation = little_number_at 4 4 first;
  act = act;
})

abbrev pub take_known_intent : List ℕ → List (List ℕ) → Result Taken Reason
take_known_intent first rest =
    if op_in first == set_op then if_lawful (is_lawful_one first rest) (record { item = intent_with first (Set (one_parent_in first rest)); behind = 2 })
    else if op_in first == remove_op then if_lawful (is_lawful_one first rest) (record { item = intent_with first (Remove (one_parent_in first rest)); behind = 2 })
    else if_lawful (is_lawful_replace first rest) (record { item = intent_with first (Replace (old_parent_in first rest) (new_parent_in first rest)); behind = 4 })

abbrev pub take_intent : List ℕ → List (List ℕ) → Result Taken Reason
take_intent first rest =
    if nat_lt (length first) 28 then Err Malformed
    else if not (knows_op (op_in first)) then Err Foreign
    else take_known_intent first rest

-- ---- the end of an intent

abbrev pub take_done : List ℕ → List (List ℕ) → Result Taken Reason
take_done first rest =
    if_lawful ((length first == 16) && (regions_said first == 1)) (record { item = Done (little_number_at 8 8 first); behind = 0 })

-- ---- any item

abbrev pub knows_type : ℕ → Bool
knows_type type = (type == inode_type) || (type == buffer_type) || (type == intent_type) || (type == done_type)

abbrev pub take_known : List ℕ → List (List ℕ) → Result Taken Reason
take_known first rest =
    if type_in first == inode_type then take_inode first rest
    else if type_in first == buffer_type then take_buffer first rest
    else if type_in first == intent_type then take_intent first rest
    else take_done first rest

-- The item that begins with a region, of those that stand behind it. One whose type is there and is none of these is foreign; one whose
-- type is cut off is malformed.
abbrev pub take_item : List ℕ → List (List ℕ) → Result Taken Reason
take_item first rest =
    if nat_lt (length first) 2 then Err Malformed
    else if not (knows_type (type_in first)) then Err Foreign
    else take_known first rest
