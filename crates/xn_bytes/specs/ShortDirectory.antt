-- Directories in short form: the entries stand in the inode's data fork (`struct xfs_dir2_sf_hdr` and
-- `xfs_dir2_sf_entry` of `xfs_da_format.h`, with the kind behind the name).
use Rattle.std.specs.Prelude.{◌≡◌, ℕ, zero, suc, ◌+◌, ◌-◌, ◌*◌, ◌%◌, ◌^◌, ◌<◌, ◌≤◌, Bool, true, ◌==◌, ◌&&◌, nat_lt, nat_le, not, if◌then◌else◌, List, [], ◌∷◌, ◌++◌, length, drop, slice_index, slice_range, count_by, flat_map, All, Option, Some, None, Result, Ok, Err, is_none, unwrap_or}
use Rattle.byteorder.specs.Endian.{big_bytes}
use Rattle.xn_bytes.specs.declared.kind.Kind.TheVariants.{Reg}
use Rattle.xn_bytes.specs.Numbers.{number_at}
use Rattle.xn_bytes.specs.Kinds.{kind_number, kind_of_number}
use Rattle.xn_bytes.specs.Entries.{Entry, data_entry_length}

-- the parent (dotdot), and the entries in order
pub record ShortForm : Type 0 where
  pub parent : ℕ
  pub entries : List Entry

-- ---- how it is spelled

-- how many inode numbers need 8 bytes, the parent's included
abbrev pub wide_numbers : ShortForm → ℕ
wide_numbers form =
    (if nat_le (2 ^ 32) form.parent then 1 else 0) + count_by (λ entry. nat_le (2 ^ 32) entry.ino) form.entries

-- how many bytes each inode number has: 8 where one of them needs it
abbrev pub number_width : ℕ → ℕ
number_width wide = if wide == 0 then 4 else 8

-- the bytes of an entry: name's length, position, name, kind, inode number
abbrev pub entry_spelling : ℕ → Entry → List ℕ
entry_spelling width entry =
    length entry.name ∷ (big_bytes 2 entry.position ++ entry.name ++ kind_number entry.kind ∷ big_bytes width entry.ino)

-- the bytes of a form: count, number of wide inode numbers, parent, entries
abbrev pub short_spelling : ShortForm → List ℕ
short_spelling form =
    let width = number_width (wide_numbers form) in
    length form.entries ∷ wide_numbers form ∷ (big_bytes width form.parent ++ flat_map (entry_spelling width) form.entries)

-- ---- which forms are lawful

-- the least position that an entry can have: dot and dotdot stand before it in a data block
abbrev pub first_position : ℕ
first_position = 96

-- how far an entry reaches in the data block that it would have
abbrev pub end_of : Entry → ℕ
end_of entry = entry.position + data_entry_length (length entry.name)

-- positions are multiples of 8 and rise, each at or after the end of the entry before
abbrev pub AreApart : ℕ → List Entry → Type 0
AreApart least [] = Unit {0}
AreApart least (entry ∷ entries) = (least ≤ entry.position) × (entry.position % 8 ≡ 0) × AreApart (end_of entry) entries

-- the end of the last entry
abbrev pub last_end : ℕ → List Entry → ℕ
last_end least [] = least
last_end least (entry ∷ entries) = last_end (end_of entry) entries

-- the bytes of a name, and numbers that have their fields
pub record FitsEntry (entry : Entry) : Type 0 where
  pub name : length entry.name < 256
  pub bytes : All (λ byte. byte < 256) entry.name
  pub ino : entry.ino < 2 ^ 64

-- The form has its fields, its entries stand apart, and the whole would fit a block: the last end, and behind it
-- a leaf entry of 8 bytes for each entry, dot and dotdot, and 8 bytes of counts.
pub record IsShortForm (form : ShortForm) : Type 0 where
  pub count : length form.entries < 256
  pub wide : wide_numbers form < 256
  pub parent : form.parent < 2 ^ 64
  pub fit : All FitsEntry form.entries
  pub apart : AreApart first_position form.entries
  pub block : last_end first_position form.entries + 8 * (length form.entries + 2) + 8 ≤ 4096

-- the bytes spell this form, each byte of them
pub record ShortHolds (bytes : List ℕ) (form : ShortForm) : Type 0 where
  pub lawful : IsShortForm form
  pub spelled : bytes ≡ short_spelling form

-- ---- the earliest place at which bytes fail

-- A position may stand here: a multiple of 8, at or after `least`, and its entry ends at `limit` or before.
abbrev pub fits_position : ℕ → ℕ → ℕ → ℕ → Bool
fits_position least limit name_length position =
    nat_le least position && (position % 8 == 0) && nat_le (position + data_entry_length name_length) limit

-- how many bytes the entry at the front takes, by the length of its name
abbrev pub entry_size : ℕ → List ℕ → ℕ
entry_size width rest = 4 + slice_index rest 0 + width

-- the entry at the front
abbrev pub entry_in : ℕ → List ℕ → Entry
entry_in width rest = record {
  name = slice_range rest 3 (3 + slice_index rest 0);
  ino = number_at width (4 + slice_index rest 0) rest;
  kind = unwrap_or (kind_of_number (slice_index rest (3 + slice_index rest 0))) Reg;
  position = number_at 2 1 rest;
}

-- the entries at the front
unfoldable pub entries_in : ℕ → ℕ → List ℕ → List Entry
entries_in zero width rest = []
entries_in (suc count) width rest = entry_in width rest ∷ entries_in count width (drop (entry_size width rest) rest)

-- The fault of the entry at the front of `rest`, which begins at the place `at`: the place of the first byte that
-- is missing, or of the position or the kind that is wrong, whichever comes first.
unfoldable pub entry_fault : ℕ → ℕ → ℕ → ℕ → List ℕ → Option ℕ
entry_fault width least limit at rest =
    if nat_lt (length rest) 3 then Some (at + length rest)
    else if not (fits_position least limit (slice_index rest 0) (number_at 2 1 rest)) then Some (at + 1)
    else if nat_lt (length rest) (4 + slice_index rest 0) then Some (at + length rest)
    else if is_none (kind_of_number (slice_index rest (3 + slice_index rest 0))) then Some (at + 3 + slice_index rest 0)
    else if nat_lt (length rest) (entry_size width rest) then Some (at + length rest)
    else None

-- the first fault, or else what comes after
abbrev pub unless_fault : Option ℕ → Result ℕ ℕ → Result ℕ ℕ
unless_fault None next = next
unless_fault (Some fault) next = Err fault

-- the place where so many entries end, or the first fault among them
unfoldable pub entries_end : ℕ → ℕ → ℕ → ℕ → ℕ → List ℕ → Result ℕ ℕ
entries_end zero width least limit at rest = Ok at
entries_end (suc count) width least limit at rest =
    unless_fault (entry_fault width least limit at rest)
    (entries_end count width (number_at 2 1 rest + data_entry_length (slice_index rest 0)) limit (at + entry_size width rest) (drop (entry_size width rest) rest))

-- whether the bytes of so many entries are all there
unfoldable pub entries_there : ℕ → ℕ → List ℕ → Bool
entries_there zero width rest = true
entries_there (suc count) width rest = nat_le (entry_size width rest) (length rest) && entries_there count width (drop (entry_size width rest) rest)

-- the width of the inode numbers, by the count of wide ones in byte 1
abbrev pub width_in : List ℕ → ℕ
width_in bytes = number_width (slice_index bytes 1)

-- the form that stands in bytes
unfoldable pub form_in : List ℕ → ShortForm
form_in bytes = record {
  parent = number_at (width_in bytes) 2 bytes;
  entries = entries_in (slice_index bytes 0) (width_in bytes) (drop (2 + width_in bytes) bytes);
}

-- where the last entry has to end, so that a block would hold the whole
abbrev pub end_limit : ℕ → ℕ
end_limit count = 4096 - (8 * (count + 2) + 8)

-- Once the entries end at a place, nothing may follow.
abbrev pub after_entries : List ℕ → Result ℕ ℕ → Option ℕ
after_entries bytes (Err fault) = Some fault
after_entries bytes (Ok end) = if nat_lt end (length bytes) then Some end else None

-- The earliest place at which bytes fail to be a short form: that of the first byte that is missing, too many, or of a
-- field that is wrong. The count of wide numbers, at place 1, is compared where all the entries' bytes are there.
unfoldable pub short_fault : List ℕ → Option ℕ
short_fault bytes =
    if nat_lt (length bytes) 2 then Some (length bytes)
    else if nat_lt (length bytes) (2 + width_in bytes) then Some (length bytes)
    else if entries_there (slice_index bytes 0) (width_in bytes) (drop (2 + width_in bytes) bytes) && not (wide_numbers (form_in bytes) == slice_index bytes 1) then Some 1
    else after_entries bytes
    (entries_end (slice_index bytes 0) (width_in bytes) first_position (end_limit (slice_index bytes 0)) (2 + width_in bytes) (drop (2 + width_in bytes) bytes))
