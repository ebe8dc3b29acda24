-- Which committed items can be carried out on an image: where their objects lie, whether what is logged fits there, and whether what
-- they leave follows from the log alone, whatever part of it the homes hold already.
use Rattle.std.specs.Prelude.{◌≡◌, ⊤, ◌⊎◌, ℕ, ◌+◌, ◌/◌, ◌≤◌, Bool, false, IsTrue, ◌==◌, if◌then◌else◌, List, [], ◌∷◌, length, Contains, Option, Some, None, IfSome}
use Rattle.std.specs.List.{list_any}
use Rattle.xn_bytes.specs.Blocks.{IsHome}
use Rattle.xn_bytes.specs.Superblock.{Geometry, sector_of_block}
use Rattle.xn_changes.specs.Items.{pieces_in}
use Rattle.xn_changes.specs.declared.committed.Committed.{Committed}
use Rattle.xn_changes.specs.declared.committed.Place.{Place}
use Rattle.xn_changes.specs.declared.item.BufferItem.{BufferItem}
use Rattle.xn_changes.specs.declared.item.InodeItem.{InodeItem}
use Rattle.xn_changes.specs.declared.item.Item.{Item}
use Rattle.xn_changes.specs.declared.item.Item.TheVariants.{Buffer, Inode, Done, Intent as Asks}
use Rattle.xn_settled.specs.Blocks.{checksum_place}
use Rattle.xn_settled.specs.Inodes.{fork_end}
use Rattle.xn_settled.specs.Settled.{Logged, left_of, logged_in}

-- ---- what items change. "Before" are items that are listed from the last to the first.

-- the first sector of the block in which an inode stands
abbrev pub inode_block_sector : Geometry → ℕ → ℕ
inode_block_sector g ino = sector_of_block g (ino / 8)

-- an item changes an inode in the block that begins at a sector
abbrev pub is_inode_in : Geometry → ℕ → Item → Bool
is_inode_in g sector (Inode item) = inode_block_sector g item.number == sector
is_inode_in g sector (Buffer item) = false
is_inode_in g sector (Asks intent) = false
is_inode_in g sector (Done id) = false

-- one of the items does
abbrev pub changes_inode_in : Geometry → ℕ → List Logged → Bool
changes_inode_in g sector before = list_any (λ logged. is_inode_in g sector logged.item) before

-- where an item that changes the buffer at a sector has its checksum; else what is said of those before
abbrev pub checksum_or : ℕ → Item → Option ℕ → Option ℕ
checksum_or sector (Buffer item) other = if item.sector == sector then Some (checksum_place item) else other
checksum_or sector (Inode item) other = other
checksum_or sector (Asks intent) other = other
checksum_or sector (Done id) other = other

-- where the last of the items that change the buffer at a sector has its checksum, if one does
unfoldable pub last_checksum : ℕ → List Logged → Option ℕ
last_checksum sector [] = None
last_checksum sector (logged ∷ before) = checksum_or sector logged.item (last_checksum sector before)

-- ---- lawful items

-- An inode in a home block that is none of the pool and no buffer before changes. The logged fronts of its forks fit there.
pub record IsLawfulInode (g : Geometry) (pool : List ℕ) (before : List Logged) (item : InodeItem) : Type 0 where
  pub home : IsHome g (item.number / 8)
  pub no_pool : ¬ Contains pool (item.number / 8)
  pub data_fork : IfSome item.data_fork (λ fork. (176 + length fork ≤ fork_end item.core) × (176 + length fork ≤ 512))
  pub attr_fork : IfSome item.attr_fork (λ fork. fork_end item.core + length fork ≤ 512)
  pub no_buffer : last_checksum (inode_block_sector g item.number) before ≡ None

-- the buffer is that of one home block
pub record IsBufferOf (g : Geometry) (block : ℕ) (item : BufferItem) : Type 0 where
  pub home : IsHome g block
  pub sector : item.sector ≡ sector_of_block g block
  pub length : item.length ≡ 8

-- all 32 pieces of the block are replaced, of an item whose pieces lie within the block
abbrev pub HasWholeMap : BufferItem → Type 0
HasWholeMap item = length (pieces_in item.map) ≡ 32

-- The buffer of a home block. Where an item before changes an inode in it, the whole block is replaced. Where another buffer of it came
-- before, its first piece is replaced, or the checksum stays at its place.
pub record IsLawfulBuffer (g : Geometry) (before : List Logged) (item : BufferItem) : Type 0 where
  pub block : (block : ℕ) × IsBufferOf g block item
  pub whole : IsTrue (changes_inode_in g item.sector before) → HasWholeMap item
  pub place : IfSome (last_checksum item.sector before) (λ at. Contains (pieces_in item.map) 0 ⊎ (at ≡ checksum_place item))

-- intents and their ends are looked at elsewhere
abbrev pub IsLawful : Geometry → List ℕ → List Logged → Item → Type 0
IsLawful g pool before (Inode item) = IsLawfulInode g pool before item
IsLawful g pool before (Buffer item) = IsLawfulBuffer g before item
IsLawful g pool before (Asks intent) = ⊤
IsLawful g pool before (Done id) = ⊤

-- all items are lawful, behind others
unfoldable pub AreLawful : Geometry → List ℕ → List Logged → List Logged → Type 0
AreLawful g pool before [] = ⊤
AreLawful g pool before (logged ∷ rest) = IsLawful g pool before logged.item × AreLawful g pool (logged ∷ before) rest

-- the first item that is not lawful begins at this place
unfoldable pub IsFirstUnlawful : Geometry → List ℕ → List Logged → Place → List Logged → Type 0
IsFirstUnlawful g pool before place [] = ⊥
IsFirstUnlawful g pool before place (logged ∷ rest) =
    ((IsLawful g pool before logged.item → ⊥) × (place ≡ logged.place))
    ⊎ (IsLawful g pool before logged.item × IsFirstUnlawful g pool (logged ∷ before) place rest)

-- Of committed transactions those items have to be lawful that are not cancelled; of these the first that is not.

abbrev pub AreAllLawful : Geometry → List ℕ → List Committed → Type 0
AreAllLawful g pool committed = AreLawful g pool [] (left_of (logged_in committed))

abbrev pub IsFirstUnlawfulOf : Geometry → List ℕ → List Committed → Place → Type 0
IsFirstUnlawfulOf g pool committed place = IsFirstUnlawful g pool [] place (left_of (logged_in committed))
