-- A block that is at hand.
use Rattle.std.specs.Prelude.{◌≡◌, ℕ, List, Option, MatchOption}
use Rattle.xn_bytes.specs.Blocks.{block_of}
use Rattle.xn_bytes.specs.Superblock.{Geometry}

-- a block's number and bytes, or bytes that mean nothing
pub record AtHand : Type 0 where
  pub block : Option ℕ
  pub bytes : List ℕ

-- the bytes are those of the block, if there is one
abbrev pub IsAtHand : Geometry → List ℕ → AtHand → Type 0
IsAtHand g image held = MatchOption held.block (Unit {0}) (λ block. held.bytes ≡ block_of g image block)
