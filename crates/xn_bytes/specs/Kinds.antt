-- The kinds of inodes, with their numbers in directory entries (`XFS_DIR3_FT_*` of `xfs_da_format.h`), their
-- bits in an inode's mode (`S_IFMT` of `stat.h`) and their words in replies.
use Rattle.std.specs.Prelude.{ℕ, ◌/◌, ◌==◌, if◌then◌else◌, List, codes, Option, Some, None}
use Rattle.xn_bytes.specs.declared.kind.Kind.{Kind}
use Rattle.xn_bytes.specs.declared.kind.Kind.TheVariants.{Reg, Dir, Chr, Blk, Fifo, Sock, Lnk}

-- the number of a kind in a directory entry
abbrev pub kind_number : Kind → ℕ
kind_number Reg = 1
kind_number Dir = 2
kind_number Chr = 3
kind_number Blk = 4
kind_number Fifo = 5
kind_number Sock = 6
kind_number Lnk = 7

-- the kind of a number in a directory entry
abbrev pub kind_of_number : ℕ → Option Kind
kind_of_number n =
    if n == 1 then Some Reg
    else if n == 2 then Some Dir
    else if n == 3 then Some Chr
    else if n == 4 then Some Blk
    else if n == 5 then Some Fifo
    else if n == 6 then Some Sock
    else if n == 7 then Some Lnk
    else None

-- the kind that a mode's four highest bits say, `mode & 0o170000`
abbrev pub kind_of_type_bits : ℕ → Option Kind
kind_of_type_bits bits =
    if bits == 8 then Some Reg
    else if bits == 4 then Some Dir
    else if bits == 2 then Some Chr
    else if bits == 6 then Some Blk
    else if bits == 1 then Some Fifo
    else if bits == 12 then Some Sock
    else if bits == 10 then Some Lnk
    else None

-- the kind of an inode by its mode
abbrev pub kind_of_mode : ℕ → Option Kind
kind_of_mode mode = kind_of_type_bits (mode / 4096)

-- the word for a kind in a reply
abbrev pub kind_word : Kind → List ℕ
kind_word Reg = codes "reg"
kind_word Dir = codes "dir"
kind_word Chr = codes "chr"
kind_word Blk = codes "blk"
kind_word Fifo = codes "fifo"
kind_word Sock = codes "sock"
kind_word Lnk = codes "lnk"
