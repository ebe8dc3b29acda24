-- The part of their first 56 bytes that leaves and nodes share.
use Rattle.std.specs.Prelude.{◌≡◌, ℕ, List, slice_range}
use Rattle.xn_bytes.specs.Numbers.{number_at}
use Rattle.xn_datree.specs.declared.header.TreeHeader.{TreeHeader}

-- the header stands in the bytes
pub record HeaderHolds (bytes : List ℕ) (header : TreeHeader) : Type 0 where
  pub right : header.forw ≡ number_at 4 0 bytes
  pub left : header.back ≡ number_at 4 4 bytes
  pub magic : header.magic ≡ number_at 2 8 bytes
  pub place : header.place ≡ number_at 8 16 bytes
  pub uuid : header.uuid ≡ slice_range bytes 32 48
  pub own_inode : header.owner ≡ number_at 8 48 bytes
