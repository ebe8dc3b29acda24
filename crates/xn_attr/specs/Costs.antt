-- How many pieces are read at most, also where the attributes are broken.
use Rattle.std.specs.Prelude.{ℕ, ◌+◌, ◌==◌, ◌||◌, if◌then◌else◌, List}
use Rattle.xn_bytes.specs.Numbers.{number_at}
use Rattle.xn_bytes.specs.Inode.{local_format}
use Rattle.xn_bytes.specs.Costs.{mapped_count}
use Rattle.xn_bytes.specs.AttributeForks.{attr_runs_of}

-- How many blocks the attribute fork maps, where it is there and a list of extents.
abbrev pub attr_blocks_of : List ℕ → ℕ
attr_blocks_of inode = if number_at 1 82 inode == 0 || number_at 1 83 inode == local_format then 0 else mapped_count (attr_runs_of inode)

-- A list reads the inode, and each block that is mapped.
abbrev pub list_most : List ℕ → ℕ
list_most inode = 1 + attr_blocks_of inode

-- A search reads the inode, a path, and further blocks that are mapped.
abbrev pub find_most : List ℕ → ℕ
find_most inode = 6 + attr_blocks_of inode
