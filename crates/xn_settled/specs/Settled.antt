-- The settled image: the home image with all committed items carried out, in order.
use Rattle.std.specs.Prelude.{ℕ, ◌+◌, ◌*◌, Bool, true, false, ◌==◌, not, ◌&&◌, if◌then◌else◌, List, [], ◌∷◌, flat_map, map, slice_range}
use Rattle.std.specs.List.{list_any, zip}
use Rattle.xn_bytes.specs.Blocks.{with_inode}
use Rattle.xn_bytes.specs.Inode.{inode_of}
use Rattle.xn_bytes.specs.Numbers.{overlaid}
use Rattle.xn_bytes.specs.Superblock.{Geometry}
use Rattle.xn_changes.specs.Items.{is_cancelled}
use Rattle.xn_changes.specs.declared.committed.Committed.{Committed}
use Rattle.xn_changes.specs.declared.committed.Place.{Place}
use Rattle.xn_changes.specs.declared.item.BufferItem.{BufferItem}
use Rattle.xn_changes.specs.declared.item.Item.{Item}
use Rattle.xn_changes.specs.declared.item.Item.TheVariants.{Buffer, Inode, Done, Intent as Asks}
use Rattle.xn_settled.specs.Blocks.{block_after}
use Rattle.xn_settled.specs.Inodes.{inode_after}

-- an item of a committed transaction: the sequence number of the record with the commit, where the item begins, and the item
pub record Logged : Type 0 where
  pub lsn : ℕ
  pub place : Place
  pub item : Item

-- an item with its place
abbrev pub logged_at : ℕ → Place × Item → Logged
logged_at lsn placed = record { lsn = lsn; place = placed.0; item = placed.1 }

abbrev pub logged_of : Committed → List Logged
logged_of committed = map (logged_at committed.lsn) (zip committed.places committed.transaction.items)

-- the items of committed transactions, in order of the commits
abbrev pub logged_in : List Committed → List Logged
logged_in committed = flat_map logged_of committed

-- ---- cancelled buffers

-- a buffer of the same sectors that cancels
abbrev pub cancels : BufferItem → Item → Bool
cancels item (Buffer other) = is_cancelled other.flags && (other.sector == item.sector) && (other.length == item.length)
cancels item (Inode other) = false
cancels item (Asks other) = false
cancels item (Done id) = false

-- An item is not cancelled: it cancels nothing, and nothing behind it cancels it.
abbrev pub is_left : Item → List Logged → Bool
is_left (Buffer item) behind = not (is_cancelled item.flags) && not (list_any (λ logged. cancels item logged.item) behind)
is_left (Inode item) behind = true
is_left (Asks intent) behind = true
is_left (Done id) behind = true

-- the items that are not cancelled
unfoldable pub left_of : List Logged → List Logged
left_of [] = []
left_of (logged ∷ behind) = if is_left logged.item behind then logged ∷ left_of behind else left_of behind

-- ---- the fold

-- the bytes of the image in a buffer's eight sectors
abbrev pub buffer_of : List ℕ → BufferItem → List ℕ
buffer_of image item = slice_range image (512 * item.sector) (512 * item.sector + 4096)

-- an image with an item carried out; intents and their ends change none
abbrev pub with_item : Geometry → ℕ → Item → List ℕ → List ℕ
with_item g lsn (Buffer item) image = overlaid image (512 * item.sector) (block_after item lsn (buffer_of image item))
with_item g lsn (Inode item) image = with_inode g image item.number (inode_after item lsn (inode_of g image item.number))
with_item g lsn (Asks intent) image = image
with_item g lsn (Done id) image = image

-- an image with items carried out in order
unfoldable pub with_items : Geometry → List Logged → List ℕ → List ℕ
with_items g [] image = image
with_items g (logged ∷ behind) image = with_items g behind (with_item g logged.lsn logged.item image)

-- the settled image of a home image over which these transactions were committed
abbrev pub settled_by : Geometry → List Committed → List ℕ → List ℕ
settled_by g committed home = with_items g (left_of (logged_in committed)) home
