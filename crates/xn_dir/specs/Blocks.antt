-- The data fork of a directory over an image, and what is noted of its data blocks.
use Rattle.std.specs.Prelude.{ℕ, List}
use Rattle.xn_bytes.specs.Superblock.{Geometry}
use Rattle.xn_bytes.specs.Blocks.{block_of}
use Rattle.xn_bytes.specs.Extents.{Run}
use Rattle.xn_bytes.specs.LeafForms.{DirFork}

-- the data fork with these runs
abbrev pub fork_over : Geometry → ℕ → List Run → List ℕ → DirFork
fork_over g dir runs image = record { geometry = g; owner = dir; runs = runs; blocks = block_of g image }
