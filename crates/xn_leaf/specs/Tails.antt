-- What a single leaf must be for its bests to be read.
use Rattle.std.specs.Prelude.{◌≡◌, ℕ, ◌+◌, ◌*◌, ◌≤◌, List}
use Rattle.xn_bytes.specs.Numbers.{number_at}
use Rattle.xn_bytes.specs.Checksum.{HasChecksum}
use Rattle.xn_bytes.specs.HashedTree.{single_leaf_magic}

-- the magic number, the checksum, and place for as many bests as it says
pub record HasTail (bytes : List ℕ) : Type 0 where
  pub is_magic : number_at 2 8 bytes ≡ single_leaf_magic
  pub checksum : HasChecksum bytes 12
  pub apart : 64 + 8 * number_at 2 56 bytes + 2 * number_at 4 4092 bytes + 4 ≤ 4096
