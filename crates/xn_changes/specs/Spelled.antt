-- The bytes of items as this project writes them: each of them, in the regions that an item has; and a transaction as operations.
use Rattle.std.specs.Prelude.{◌≡◌, ℕ, ◌+◌, ◌-◌, ◌^◌, ◌<◌, Bool, true, false, IsTrue, List, [], ◌∷◌, ◌++◌, length, map, replicate, flat_map, All, Option, is_some, option_to_list, bit_and}
use Rattle.byteorder.specs.Endian.{big_bytes, little_bytes}
use Rattle.xn_bytes.specs.Names.{IsName}
use Rattle.xn_items.specs.declared.parent.ParentRec.{ParentRec}
use Rattle.xn_log.specs.declared.operation.Op.{Op}
use Rattle.xn_changes.specs.declared.committed.Transaction.{Transaction}
use Rattle.xn_changes.specs.declared.intent.Act.{Act}
use Rattle.xn_changes.specs.declared.intent.Act.TheVariants.{Set, Remove, Replace}
use Rattle.xn_changes.specs.declared.intent.Intent.{Intent}
use Rattle.xn_changes.specs.declared.item.Item.{Item}
use Rattle.xn_changes.specs.declared.item.Item.TheVariants.{Buffer, Inode, Done, Intent as Asks}
use Rattle.xn_changes.specs.declared.item.BufferItem.{BufferItem}
use Rattle.xn_changes.specs.declared.item.InodeItem.{InodeItem}
use Rattle.xn_changes.specs.Items.{are_within, buffer_kind, buffer_type, core_size, cover, done_type, has_attribute_fork, has_core, has_data_fork, inode_type, intent_type, is_cancelled, known_fields, knows_kind, parent_filter, parent_value_length, pieces_in, remove_op, replace_op, rounded, set_op}

-- what a first region begins with: which item it is, and how many regions that has with this one
abbrev pub item_front : ℕ → ℕ → List ℕ
item_front type regions = little_bytes 2 type ++ little_bytes 2 regions

-- ---- inodes

-- how many bytes a fork has in the log, none where it isn't logged
abbrev pub fork_size : Option (List ℕ) → ℕ
fork_size fork = length (flat_map (λ bytes. bytes) (option_to_list fork))

-- the core, and behind it the forks that are logged
abbrev pub inode_regions_behind : InodeItem → List (List ℕ)
inode_regions_behind inode = inode.core ∷ option_to_list inode.data_fork ++ option_to_list inode.attr_fork

-- the fields of an inode's item; the sixteen bytes behind its number are a device's number or a uuid, which nobody reads
abbrev pub inode_format_spelling : InodeItem → List ℕ
inode_format_spelling inode =
    item_front inode_type (1 + length (inode_regions_behind inode)) ++ little_bytes 4 inode.fields
    ++ little_bytes 2 (fork_size inode.attr_fork) ++ little_bytes 2 (fork_size inode.data_fork) ++ replicate 4 0
    ++ little_bytes 8 inode.number ++ replicate 16 0
    ++ little_bytes 8 inode.sector ++ little_bytes 4 inode.length ++ little_bytes 4 inode.offset

-- ---- buffers

abbrev pub buffer_format_spelling : BufferItem → List ℕ
buffer_format_spelling buffer =
    item_front buffer_type (1 + length buffer.regions) ++ little_bytes 2 buffer.flags ++ little_bytes 2 buffer.length
    ++ little_bytes 8 buffer.sector ++ little_bytes 4 (length buffer.map) ++ flat_map (little_bytes 4) buffer.map

-- ---- intents on parent records

-- what is to be done, and the lengths of the names
abbrev pub act_spelling : Act → List ℕ
act_spelling (Set parent) = little_bytes 4 set_op ++ little_bytes 4 (length parent.name)
act_spelling (Remove parent) = little_bytes 4 remove_op ++ little_bytes 4 (length parent.name)
act_spelling (Replace old new) = little_bytes 4 replace_op ++ little_bytes 2 (length old.name) ++ little_bytes 2 (length new.name)

-- a name, filled up with zeros to a multiple of 4
abbrev pub name_spelling : ParentRec → List ℕ
name_spelling parent = parent.name ++ replicate (rounded (length parent.name) - length parent.name) 0

abbrev pub value_spelling : ParentRec → List ℕ
value_spelling parent = big_bytes 8 parent.dir ++ big_bytes 4 parent.generation

-- the names, and behind them the values
abbrev pub intent_regions_behind : Act → List (List ℕ)
intent_regions_behind (Set parent) = name_spelling parent ∷ value_spelling parent ∷ []
intent_regions_behind (Remove parent) = name_spelling parent ∷ value_spelling parent ∷ []
intent_regions_behind (Replace old new) = name_spelling old ∷ name_spelling new ∷ value_spelling old ∷ value_spelling new ∷ []

abbrev pub intent_format_spelling : Intent → List ℕ
intent_format_spelling intent =
    item_front intent_type (1 + length (intent_regions_behind intent.act)) ++ little_bytes 4 intent.generation
    ++ little_bytes 8 intent.id ++ little_bytes 8 intent.ino ++ act_spelling intent.act
    ++ little_bytes 4 parent_value_length ++ little_bytes 4 parent_filter

-- ---- any item

-- the regions of an item
abbrev pub regions_spelling : Item → List (List ℕ)
regions_spelling (Buffer buffer) = buffer_format_spelling buffer ∷ buffer.regions
regions_spelling (Inode inode) = inode_format_spelling inode ∷ inode_regions_behind inode
regions_spelling (Asks intent) = intent_format_spelling intent ∷ intent_regions_behind intent.act
regions_spelling (Done id) = (item_front done_type 1 ++ replicate 4 0 ++ little_bytes 8 id) ∷ []

-- ---- which items can be written

-- the fields say just what is there, and each length fits
pub record IsSpellableInode (inode : InodeItem) : Type 0 where
  pub known : bit_and inode.fields known_fields ≡ inode.fields
  pub core_logged : IsTrue (has_core inode.fields)
  pub core_is : length inode.core ≡ core_size
  pub data_fork_is : is_some inode.data_fork ≡ has_data_fork inode.fields
  pub attr_fork_is : is_some inode.attr_fork ≡ has_attribute_fork inode.fields
  pub data_fits : fork_size inode.data_fork < 2 ^ 16
  pub attr_fits : fork_size inode.attr_fork < 2 ^ 16

-- a buffer that cancels has no region
pub record IsSpellableCancel (buffer : BufferItem) : Type 0 where
  pub none : buffer.regions ≡ []
  pub map_fits : length buffer.map < 2 ^ 32

-- the regions cover the pieces of the map, of a buffer of a kind that is known
pub record IsSpellableChange (buffer : BufferItem) : Type 0 where
  pub known : IsTrue (knows_kind (buffer_kind buffer.flags))
  pub covered : IsTrue (cover buffer.regions (pieces_in buffer.map))
  pub within : IsTrue (are_within buffer.length (pieces_in buffer.map))
  pub map_fits : length buffer.map < 2 ^ 32
  pub count_fits : 1 + length buffer.regions < 2 ^ 16

-- the names are names
abbrev pub IsSpellableAct : Act → Type 0
IsSpellableAct (Set parent) = IsName parent.name
IsSpellableAct (Remove parent) = IsName parent.name
IsSpellableAct (Replace old new) = IsName old.name × IsName new.name

abbrev pub IsSpellableBuffer : Bool → BufferItem → Type 0
IsSpellableBuffer true buffer = IsSpellableCancel buffer
IsSpellableBuffer false buffer = IsSpellableChange buffer

-- An item whose regions say what it is. Its numbers have to fit their fields too, as those of the code do.
abbrev pub IsSpellable : Item → Type 0
IsSpellable (Buffer buffer) = IsSpellableBuffer (is_cancelled buffer.flags) buffer
IsSpellable (Inode inode) = IsSpellableInode inode
IsSpellable (Asks intent) = IsSpellableAct intent.act
IsSpellable (Done id) = Unit {0}

-- ---- transactions

-- the header: `TRAN`, its type, the transaction's number, how many items there are
abbrev pub header_spelling : Transaction → List ℕ
header_spelling transaction =
    little_bytes 4 0x5452414e ++ little_bytes 4 40 ++ little_bytes 4 transaction.tid ++ little_bytes 4 (length transaction.items)

-- who writes the operations of transactions
abbrev pub transaction_client : ℕ
transaction_client = 0x69

abbrev pub operation_with : ℕ → ℕ → List ℕ → Op
operation_with tid flags bytes = record { tid = tid; client = transaction_client; flags = flags; bytes = bytes }

-- The operations of a transaction: its start, one for each region, the header's first, and its commit. A region that meets the end
-- of a record is parted later, as records are filled.
abbrev pub encode_items : Transaction → List Op
encode_items transaction =
    operation_with transaction.tid 1 []
    ∷ map (operation_with transaction.tid 0) (header_spelling transaction ∷ flat_map regions_spelling transaction.items)
    ++ operation_with transaction.tid 2 [] ∷ []

-- A transaction whose items can be written.
pub record IsSpellableTransaction (transaction : Transaction) : Type 0 where
  pub items_are : All IsSpellable transaction.items
  pub count_fits : length transaction.items < 2 ^ 32
