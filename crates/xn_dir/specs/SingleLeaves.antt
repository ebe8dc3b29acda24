-- The single leaf of a directory in leaf form, part by part.
use Rattle.std.specs.Prelude.{◌≡◌, ℕ, List}
use Rattle.xn_bytes.specs.Superblock.{Geometry}
use Rattle.xn_bytes.specs.HashedTree.{LeafTailHolds, single_leaf_magic}
use Rattle.xn_bytes.specs.Trees.{IsOwnBlock, magic_in, left_in, right_in}
use Rattle.xn_bytes.specs.LeafForms.{IsSingleLeaf}
use Rattle.xn_dir.specs.declared.single_leaf.SingleLeaf.{SingleLeaf}

-- the header is that of the single leaf, in the place that it names, with the filesystem's uuid and its owner
pub record HasLeafHeader (g : Geometry) (dir block : ℕ) (bytes : List ℕ) : Type 0 where
  pub own : IsOwnBlock g dir block bytes
  pub is_magic : magic_in bytes ≡ single_leaf_magic
  pub no_left : left_in bytes ≡ 0
  pub no_right : right_in bytes ≡ 0

-- the bytes are the single leaf with these leaf entries, and with these bests behind them
abbrev pub IsLeafRead : Geometry → ℕ → ℕ → List ℕ → SingleLeaf → Type 0
IsLeafRead g dir block bytes leaf = IsSingleLeaf g dir block bytes leaf.live.items × LeafTailHolds bytes leaf.bests.items
