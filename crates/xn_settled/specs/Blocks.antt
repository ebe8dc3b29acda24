-- A block after an item (`struct xfs_buf_log_format` of `xfs_log_format.h`): the pieces whose bits are set are replaced.
use Rattle.std.specs.Prelude.{ℕ, ◌*◌, nat_le, if◌then◌else◌, List, [], ◌∷◌, take, drop, flat_map}
use Rattle.byteorder.specs.Endian.{big_bytes}
use Rattle.xn_bytes.specs.Numbers.{overlaid}
use Rattle.xn_changes.specs.Items.{buffer_kind, piece_size, pieces_in}
use Rattle.xn_changes.specs.declared.item.BufferItem.{BufferItem}
use Rattle.xn_settled.specs.Inodes.{summed}

-- the bytes of an item's regions, one behind the other
abbrev pub bytes_of_regions : BufferItem → List ℕ
bytes_of_regions item = flat_map (λ region. region) item.regions

-- a block with the pieces of these numbers replaced by the pieces of the bytes, in order
unfoldable pub with_pieces : List ℕ → List ℕ → List ℕ → List ℕ
with_pieces [] bytes block = block
with_pieces (piece ∷ pieces) bytes block =
    with_pieces pieces (drop piece_size bytes) (overlaid block (piece_size * piece) (take piece_size bytes))

-- Blocks of a directory's data (10, 11) and of its free index (12) have their checksum at 4 and their sequence number at 16, leaves and
-- nodes (13 to 16) at 12 and 24.

abbrev pub last_data_kind : ℕ
last_data_kind = 12

abbrev pub checksum_place : BufferItem → ℕ
checksum_place item = if nat_le (buffer_kind item.flags) last_data_kind then 4 else 12

abbrev pub lsn_place : BufferItem → ℕ
lsn_place item = if nat_le (buffer_kind item.flags) last_data_kind then 16 else 24

-- a home block with the pieces and the sequence number laid over it
abbrev pub laid_block : BufferItem → ℕ → List ℕ → List ℕ
laid_block item lsn home =
    overlaid (with_pieces (pieces_in item.map) (bytes_of_regions item) home) (lsn_place item) (big_bytes 8 lsn)

-- the bytes of a block after an item of a transaction whose commit stands in the record with that sequence number
abbrev pub block_after : BufferItem → ℕ → List ℕ → List ℕ
block_after item lsn home = summed (checksum_place item) (laid_block item lsn home)
