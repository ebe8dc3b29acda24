-- The errors that a reply can name, with Linux's numbers (`errno-base.h` and `errno.h`).
use Rattle.std.specs.Prelude.{ℕ, List, codes}
use Rattle.xn_meaning.specs.declared.errno.Errno.{Errno}
use Rattle.xn_meaning.specs.declared.errno.Errno.TheVariants.{EPERM, ENOENT, EBUSY, EEXIST, ENOTDIR, EISDIR, EINVAL, EFBIG, ENOSPC, ENAMETOOLONG, ENOTEMPTY}

-- the number of an error
abbrev pub error_number : Errno → ℕ
error_number EPERM = 1
error_number ENOENT = 2
error_number EBUSY = 16
error_number EEXIST = 17
error_number ENOTDIR = 20
error_number EISDIR = 21
error_number EINVAL = 22
error_number EFBIG = 27
error_number ENOSPC = 28
error_number ENAMETOOLONG = 36
error_number ENOTEMPTY = 39

-- its name
abbrev pub error_word : Errno → List ℕ
error_word EPERM = codes "EPERM"
error_word ENOENT = codes "ENOENT"
error_word EBUSY = codes "EBUSY"
error_word EEXIST = codes "EEXIST"
error_word ENOTDIR = codes "ENOTDIR"
error_word EISDIR = codes "EISDIR"
error_word EINVAL = codes "EINVAL"
error_word EFBIG = codes "EFBIG"
error_word ENOSPC = codes "ENOSPC"
error_word ENAMETOOLONG = codes "ENAMETOOLONG"
error_word ENOTEMPTY = codes "ENOTEMPTY"
