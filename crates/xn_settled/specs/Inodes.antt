-- An inode after an item: its core as the log has it (`struct xfs_log_dinode` of `xfs_log_format.h`) put into the form that is stored
-- (`struct xfs_dinode` of `xfs_format.h`), and the logged fronts of its forks.
use Rattle.std.specs.Prelude.{ℕ, ◌+◌, ◌*◌, ◌/◌, ◌%◌, Bool, ◌==◌, if◌then◌else◌, List, [], ◌++◌, drop, replicate, slice_range, Option, unwrap_or}
use Rattle.byteorder.specs.Endian.{big_bytes, little_bytes}
use Rattle.xn_bytes.specs.Numbers.{number_at, little_number_at, overlaid}
use Rattle.xn_bytes.specs.Checksum.{checksum_with}
use Rattle.xn_changes.specs.declared.item.InodeItem.{InodeItem}

-- a number of the core, which the log has with the lowest byte first: stored with the highest
unfoldable pub stored : ℕ → ℕ → List ℕ → List ℕ
stored width at core = big_bytes width (little_number_at width at core)

-- time stamps are one number of 64 bits (BIGTIME, bit 3 of the flags at 120)
abbrev pub has_wide_times : List ℕ → Bool
has_wide_times core = little_number_at 8 120 core / 8 % 2 == 1

-- a time stamp: one number, or seconds and nanoseconds
unfoldable pub stored_time : ℕ → List ℕ → List ℕ
stored_time at core = if has_wide_times core then stored 8 at core else stored 4 at core ++ stored 4 (at + 4) core

-- magic, mode, version, the data fork's format, and two free bytes, which become zeros
abbrev pub kind_fields : List ℕ → List ℕ
kind_fields core = stored 2 0 core ++ stored 2 2 core ++ slice_range core 4 6 ++ replicate 2 0

-- user, group, link count and project
abbrev pub owner_fields : List ℕ → List ℕ
owner_fields core = stored 4 8 core ++ stored 4 12 core ++ stored 4 16 core ++ stored 2 20 core ++ stored 2 22 core

-- the wide extent count, and when the inode was last read, written and changed
abbrev pub time_fields : List ℕ → List ℕ
time_fields core = stored 8 24 core ++ stored_time 32 core ++ stored_time 40 core ++ stored_time 48 core

-- size, blocks, the extent size that is wanted, and the narrow extent counts
abbrev pub size_fields : List ℕ → List ℕ
size_fields core = stored 8 56 core ++ stored 8 64 core ++ stored 4 72 core ++ stored 4 76 core ++ stored 2 80 core

-- the fork offset and the attribute fork's format, flags and generation
abbrev pub fork_fields : List ℕ → List ℕ
fork_fields core = slice_range core 82 84 ++ stored 4 84 core ++ stored 2 88 core ++ stored 2 90 core ++ stored 4 92 core

-- The count of changes, the sequence number, which becomes that of the record with the commit, flags, the extent size of copies that is
-- wanted, and twelve free bytes, which become zeros.
abbrev pub change_fields : List ℕ → ℕ → List ℕ
change_fields core lsn = stored 8 104 core ++ big_bytes 8 lsn ++ stored 8 120 core ++ stored 4 128 core ++ replicate 12 0

-- when the inode was made, its number and its uuid
abbrev pub own_fields : List ℕ → List ℕ
own_fields core = stored_time 144 core ++ stored 8 152 core ++ slice_range core 160 176

-- The core that is stored over that of a home inode. The home's number of the next unlinked inode stays; the checksum counts as zeros.
abbrev pub stored_core : List ℕ → ℕ → List ℕ → List ℕ
stored_core core lsn home =
    kind_fields core ++ owner_fields core ++ time_fields core ++ size_fields core ++ fork_fields core
    ++ slice_range home 96 100 ++ replicate 4 0 ++ change_fields core lsn ++ own_fields core

-- where the logged core says that the data fork ends and the attribute fork begins
abbrev pub fork_end : List ℕ → ℕ
fork_end core = if number_at 1 82 core == 0 then 512 else 176 + 8 * number_at 1 82 core

-- the logged front of a fork, nothing where it isn't logged
abbrev pub front_of : Option (List ℕ) → List ℕ
front_of fork = unwrap_or fork []

-- a home inode with the core and the fronts of the forks laid over it
abbrev pub laid_inode : InodeItem → ℕ → List ℕ → List ℕ
laid_inode item lsn home =
    overlaid
    (overlaid (stored_core item.core lsn home ++ drop 176 home) 176 (front_of item.data_fork))
    (fork_end item.core)
    (front_of item.attr_fork)

-- bytes with the checksum at its place made anew
abbrev pub summed : ℕ → List ℕ → List ℕ
summed at bytes = overlaid bytes at (little_bytes 4 (checksum_with bytes at))

-- the bytes of an inode after an item of a transaction whose commit stands in the record with that sequence number
abbrev pub inode_after : InodeItem → ℕ → List ℕ → List ℕ
inode_after item lsn home = summed 100 (laid_inode item lsn home)
