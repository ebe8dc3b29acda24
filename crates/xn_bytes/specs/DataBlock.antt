-- Data blocks of directories (`struct xfs_dir3_data_hdr`, `xfs_dir2_data_entry`, `xfs_dir2_data_unused` and
-- `xfs_dir2_block_tail` of `xfs_da_format.h`): regions side by side, and in block form the leaf entries behind them.
use Rattle.std.specs.Prelude.{◌≡◌, ◌≢◌, ◌⊎◌, ℕ, zero, suc, ◌+◌, ◌-◌, ◌*◌, ◌%◌, ◌≤◌, Bool, true, false, ◌==◌, ◌&&◌, nat_lt, nat_le, not, if◌then◌else◌, List, [], ◌∷◌, length, slice_index, slice_range, filter, max, Contains, Option, Some, None, is_none, unwrap_or}
use Rattle.std.specs.List.{list_any}
use Rattle.xn_bytes.specs.declared.kind.Kind.TheVariants.{Reg}
use Rattle.xn_bytes.specs.Numbers.{number_at, little_number_at}
use Rattle.xn_bytes.specs.Checksum.{HasChecksum, checksum_with}
use Rattle.xn_bytes.specs.Kinds.{kind_of_number}
use Rattle.xn_bytes.specs.Entries.{Entry, data_entry_length}

-- ---- what stands in a block

-- a free region: the byte place where it begins, and how long it is
pub record Gap : Type 0 where
  pub place : ℕ
  pub size : ℕ

-- a region of a block: an entry, or free
pub data Region : Type 0 where
  Used : (entry : Entry) → Region
  Free : (gap : Gap) → Region

-- A leaf entry: the hash of a name, and where its entry stands, in units of 8 bytes of the directory's data. A stale one
-- has address 0.
pub record LeafEntry : Type 0 where
  pub hash : ℕ
  pub address : ℕ

-- A block: whether it is of block form (`XDB3`, else `XDD3`), the three fields by which it is known (the first sector
-- of its place, the filesystem's uuid, the directory's inode), its regions, and in block form the leaf entries and the
-- count of stale ones. Positions of entries are byte places in this block.
pub record DataForm : Type 0 where
  pub is_block_form : Bool
  pub place : ℕ
  pub uuid : List ℕ
  pub owner : ℕ
  pub regions : List Region
  pub leaves : List LeafEntry
  pub stale : ℕ

-- the entries among regions, in order
abbrev pub entries_among : List Region → List Entry
entries_among [] = []
entries_among (Used entry ∷ regions) = entry ∷ entries_among regions
entries_among (Free gap ∷ regions) = entries_among regions

-- the free regions among regions, in order
abbrev pub gaps_among : List Region → List Gap
gaps_among [] = []
gaps_among (Used entry ∷ regions) = gaps_among regions
gaps_among (Free gap ∷ regions) = gap ∷ gaps_among regions

-- the length of the greatest free region, 0 where there is none
abbrev pub greatest : List Gap → ℕ
greatest [] = 0
greatest (gap ∷ gaps) = max gap.size (greatest gaps)

-- ---- how it stands in the bytes

-- `XDB3` and `XDD3`
abbrev pub block_form_magic : ℕ
block_form_magic = 0x58444233

abbrev pub data_magic : ℕ
data_magic = 0x58444433

-- the size of a block
abbrev pub block_size : ℕ
block_size = 4096

-- where the regions begin, behind the header
abbrev pub header_size : ℕ
header_size = 64

-- how many leaf entries a block of block form has, stale ones counted
abbrev pub leaf_count : List ℕ → ℕ
leaf_count bytes = number_at 4 4088 bytes

abbrev pub has_block_form : List ℕ → Bool
has_block_form bytes = number_at 4 0 bytes == block_form_magic

-- where the regions end: at the leaf entries of block form, which end 8 bytes before the block's end, else at its end
abbrev pub area_end : List ℕ → ℕ
area_end bytes = if has_block_form bytes then 4088 - 8 * leaf_count bytes else block_size

-- the two bytes at a free region's front
abbrev pub free_tag : ℕ
free_tag = 0xffff

-- An entry stands at its position, and ends at `end` or before: inode, name's length, name, kind, padding to a multiple
-- of 8, and its own place in the last two bytes.
pub record EntryStands (end : ℕ) (bytes : List ℕ) (entry : Entry) : Type 0 where
  pub used : number_at 2 entry.position bytes ≢ free_tag
  pub inode : entry.ino ≡ number_at 8 entry.position bytes
  pub name_length : length entry.name ≡ slice_index bytes (entry.position + 8)
  pub name : entry.name ≡ slice_range bytes (entry.position + 9) (entry.position + 9 + length entry.name)
  pub kind : kind_of_number (slice_index bytes (entry.position + 9 + length entry.name)) ≡ Some entry.kind
  pub within : entry.position + data_entry_length (length entry.name) ≤ end
  pub own_place : number_at 2 (entry.position + data_entry_length (length entry.name) - 2) bytes ≡ entry.position

-- A free region stands at its place, and ends at `end` or before: tag, length, free bytes, and its own place in the
-- last two bytes.
pub record GapStands (end : ℕ) (bytes : List ℕ) (gap : Gap) : Type 0 where
  pub tag : number_at 2 gap.place bytes ≡ free_tag
  pub size : gap.size ≡ number_at 2 (gap.place + 2) bytes
  pub some : 8 ≤ gap.size
  pub step : gap.size % 8 ≡ 0
  pub within : gap.place + gap.size ≤ end
  pub own_place : number_at 2 (gap.place + gap.size - 2) bytes ≡ gap.place

-- Regions stand side by side from the place `at` to the end. No two free ones touch: `behind_free` says that one stands
-- in front.
abbrev pub AreRegions : Bool → ℕ → ℕ → List ℕ → List Region → Type 0
AreRegions behind_free at end bytes [] = at ≡ end
AreRegions behind_free at end bytes (Used entry ∷ regions) =
    (entry.position ≡ at) × EntryStands end bytes entry × AreRegions false (at + data_entry_length (length entry.name)) end bytes regions
AreRegions behind_free at end bytes (Free gap ∷ regions) =
    (behind_free ≡ false) × (gap.place ≡ at) × GapStands end bytes gap × AreRegions true (at + gap.size) end bytes regions

-- ---- the best pairs

-- one of the three pairs in the header: the place of a free region, and its length
abbrev pub pair_at : ℕ → List ℕ → Gap
pair_at at bytes = record { place = number_at 2 at bytes; size = number_at 2 (at + 2) bytes }

-- the free regions but for that which begins at a place
abbrev pub gaps_without : ℕ → List Gap → List Gap
gaps_without place gaps = filter (λ gap. not (gap.place == place)) gaps

-- a pair names one of the greatest free regions, and is 0, 0 where there is none
abbrev pub NamesGreatest : List Gap → Gap → Type 0
NamesGreatest gaps pair =
    ((gaps ≡ []) × (pair.place ≡ 0) × (pair.size ≡ 0))
    ⊎ (Contains gaps pair × (pair.size ≡ greatest gaps))

-- the three pairs name the three greatest free regions in falling length, each once
pub record HasBestPairs (bytes : List ℕ) (gaps : List Gap) : Type 0 where
  pub first : NamesGreatest gaps (pair_at 48 bytes)
  pub second : NamesGreatest (gaps_without (number_at 2 48 bytes) gaps) (pair_at 52 bytes)
  pub third : NamesGreatest (gaps_without (number_at 2 52 bytes) (gaps_without (number_at 2 48 bytes) gaps)) (pair_at 56 bytes)

-- ---- the leaf entries of block form

-- the leaf entry at a place
abbrev pub leaf_at : ℕ → List ℕ → LeafEntry
leaf_at at bytes = record { hash = number_at 4 at bytes; address = number_at 4 (at + 4) bytes }

-- so many leaf entries from a place on
unfoldable pub leaves_at : ℕ → ℕ → List ℕ → List LeafEntry
leaves_at zero at bytes = []
leaves_at (suc count) at bytes = leaf_at at bytes ∷ leaves_at count (at + 8) bytes

-- the leaf entries of a block, none where it isn't of block form
abbrev pub leaves_of : List ℕ → List LeafEntry
leaves_of bytes = if has_block_form bytes then leaves_at (leaf_count bytes) (area_end bytes) bytes else []

-- the count of stale ones, 0 where it isn't of block form
abbrev pub stale_of : List ℕ → ℕ
stale_of bytes = if has_block_form bytes then number_at 4 4092 bytes else 0

-- The bytes are a data block that holds this. Whoever reads a single block compares place, uuid and owner himself, and
-- the order of the leaf entries and their stale count.
pub record DataHolds (bytes : List ℕ) (form : DataForm) : Type 0 where
  pub whole : length bytes ≡ block_size
  pub magic : number_at 4 0 bytes ≡ (if form.is_block_form then block_form_magic else data_magic)
  pub checksum : HasChecksum bytes 4
  pub place : form.place ≡ number_at 8 8 bytes
  pub uuid : form.uuid ≡ slice_range bytes 24 40
  pub owner : form.owner ≡ number_at 8 40 bytes
  pub room : header_size ≤ area_end bytes
  pub regions : AreRegions false header_size (area_end bytes) bytes form.regions
  pub pairs : HasBestPairs bytes (gaps_among form.regions)
  pub leaves : form.leaves ≡ leaves_of bytes
  pub stale : form.stale ≡ stale_of bytes

-- ---- the first place at which bytes fail

-- the length of the region that stands at a place
abbrev pub region_size : ℕ → List ℕ → ℕ
region_size at bytes =
    if number_at 2 at bytes == free_tag then number_at 2 (at + 2) bytes else data_entry_length (slice_index bytes (at + 8))

-- the entry and the region that stand at a place
abbrev pub entry_at : ℕ → List ℕ → Entry
entry_at at bytes = record {
  name = slice_range bytes (at + 9) (at + 9 + slice_index bytes (at + 8));
  ino = number_at 8 at bytes;
  kind = unwrap_or (kind_of_number (slice_index bytes (at + 9 + slice_index bytes (at + 8)))) Reg;
  position = at;
}

abbrev pub region_at : ℕ → List ℕ → Region
region_at at bytes =
    if number_at 2 at bytes == free_tag
    then Free (record { place = at; size = number_at 2 (at + 2) bytes })
    else Used (entry_at at bytes)

-- Why the region at a place fails, with at least 8 bytes up to the end: a free one that touches another, by its tag; a
-- length that is none or too long; an own place that is another; a kind that is none. An entry for which there is no
-- place even without a name fails at its first byte, and one that is too long at its name's length.
unfoldable pub region_fault : Bool → ℕ → ℕ → List ℕ → Option ℕ
region_fault behind_free at end bytes =
    let size = region_size at bytes in
    if number_at 2 at bytes == free_tag then
    (if behind_free then Some at
    else if nat_lt size 8 then Some (at + 2)
    else if not (size % 8 == 0) then Some (at + 2)
    else if nat_lt end (at + size) then Some (at + 2)
    else if not (number_at 2 (at + size - 2) bytes == at) then Some (at + size - 2)
    else None)
    else if nat_lt end (at + 16) then Some at
    else if nat_lt end (at + size) then Some (at + 8)
    else if is_none (kind_of_number (slice_index bytes (at + 9 + slice_index bytes (at + 8)))) then Some (at + 9 + slice_index bytes (at + 8))
    else if not (number_at 2 (at + size - 2) bytes == at) then Some (at + size - 2)
    else None

-- the first fault, or else the next one
abbrev pub first_fault : Option ℕ → Option ℕ → Option ℕ
first_fault None next = next
first_fault (Some fault) next = Some fault

-- more regions than a block can have: each has at least 8 bytes
abbrev pub most_regions : ℕ
most_regions = 512

-- the first fault of at most so many regions from a place on
unfoldable pub regions_fault : ℕ → Bool → ℕ → ℕ → List ℕ → Option ℕ
regions_fault zero behind_free at end bytes = None
regions_fault (suc most) behind_free at end bytes =
    if nat_le end at then None
    else first_fault (region_fault behind_free at end bytes)
    (regions_fault most (number_at 2 at bytes == free_tag) (at + region_size at bytes) end bytes)

-- the regions, at most so many, from a place on
unfoldable pub regions_at : ℕ → ℕ → ℕ → List ℕ → List Region
regions_at zero at end bytes = []
regions_at (suc most) at end bytes =
    if nat_le end at then [] else region_at at bytes ∷ regions_at most (at + region_size at bytes) end bytes

-- the regions of a block
abbrev pub regions_of : List ℕ → List Region
regions_of bytes = regions_at most_regions header_size (area_end bytes) bytes

-- why the pair at a place fails: its place names none of the greatest, or its length is another
abbrev pub pair_fault : ℕ → List Gap → Gap → Option ℕ
pair_fault at [] pair = if not (pair.place == 0) then Some at else if not (pair.size == 0) then Some (at + 2) else None
pair_fault at (gap ∷ gaps) pair =
    if not (list_any (λ one. (one.place == pair.place) && (one.size == greatest (gap ∷ gaps))) (gap ∷ gaps)) then Some at
    else if not (pair.size == greatest (gap ∷ gaps)) then Some (at + 2)
    else None

-- the first fault of the three pairs
unfoldable pub pairs_fault : List ℕ → List Gap → Option ℕ
pairs_fault bytes gaps =
    let others = gaps_without (number_at 2 48 bytes) gaps in
    first_fault (pair_fault 48 gaps (pair_at 48 bytes))
    (first_fault (pair_fault 52 others (pair_at 52 bytes))
    (pair_fault 56 (gaps_without (number_at 2 52 bytes) others) (pair_at 56 bytes)))

-- The first place at which the 4,096 bytes fail to be a data block: magic, checksum, then a count of leaf entries that
-- leaves no room for the header, since no region can be looked at without it; then the regions; and where all of these
-- stand, the pairs, which name them.
unfoldable pub data_fault : List ℕ → Option ℕ
data_fault bytes =
    if not (has_block_form bytes) && not (number_at 4 0 bytes == data_magic) then Some 0
    else if not (little_number_at 4 4 bytes == checksum_with bytes 4) then Some 4
    else if nat_lt (area_end bytes) header_size then Some 4088
    else first_fault (regions_fault most_regions false header_size (area_end bytes) bytes) (pairs_fault bytes (gaps_among (regions_of bytes)))

-- the block that stands in bytes
unfoldable pub data_in : List ℕ → DataForm
data_in bytes = record {
  is_block_form = has_block_form bytes;
  place = number_at 8 8 bytes;
  uuid = slice_range bytes 24 40;
  owner = number_at 8 40 bytes;
  regions = regions_of bytes;
  leaves = leaves_of bytes;
  stale = stale_of bytes;
}
