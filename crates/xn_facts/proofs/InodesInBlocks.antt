-- An inode is a piece of its block.
use Rattle.std.proofs.Common.{◌≡◌, ℕ, ◌+◌, ◌-◌, ◌*◌, ◌/◌, ◌%◌, ◌≤◌, List, length, drop, Option, Some, None, ap, sym, ◌∙◌, arith}
use Rattle.std.specs.Prelude.{IfSome, slice_range}
use Rattle.std.proofs.lemmas.List.{length-drop, length-take}
use Rattle.xn_bytes.specs.Blocks.{block_of}
use Rattle.xn_bytes.specs.Inode.{inode_of}
use Rattle.xn_bytes.specs.Superblock.{Geometry, sector_of_block}
use Rattle.xn_bytes.proofs.Overlays.{slice_range-slice_range}

-- a piece that is whole lies within
piece_within : (xs : List ℕ) (from : ℕ) → length (slice_range xs from (from + 4096)) ≡ 4096 → from + 4096 ≤ length xs
piece_within xs from whole =
    let width : from + 4096 - from ≡ 4096 = omega arith in
    omega (arith, whole, length-take (from + 4096 - from) (drop from xs), length-drop from xs, width)

inode_in_block : (g : Geometry) (image : List ℕ) (ino : ℕ) → length (block_of g image (ino / 8)) ≡ 4096 → slice_range (block_of g image (ino / 8)) (512 * (ino % 8)) (512 * (ino % 8) + 512) ≡ inode_of g image ino
inode_in_block g image ino whole =
    let from : ℕ = 512 * sector_of_block g (ino / 8) in
    let at : ℕ = 512 * (ino % 8) in
    let index : ino % 8 ≤ 7 = omega arith in
    let piece = slice_range-slice_range image from (from + 4096) at (at + 512) (omega (arith, index)) (piece_within image from whole) in
    let place : from + at ≡ 512 * (sector_of_block g (ino / 8) + ino % 8) = omega arith in
    piece ∙ ap (λ n. slice_range image n (from + (at + 512))) place ∙ ap (λ n. slice_range image (512 * (sector_of_block g (ino / 8) + ino % 8)) n) (omega (arith, place))

pub inode_over : (g : Geometry) (image : Option (List ℕ)) (ino : ℕ) (block inode : List ℕ) → length block ≡ 4096 → inode ≡ slice_range block (512 * (ino % 8)) (512 * (ino % 8) + 512) → IfSome image (λ x. block ≡ block_of g x (ino / 8)) → IfSome image (λ x. inode ≡ inode_of g x ino)
inode_over g None ino block inode whole piece is = is
inode_over g (Some x) ino block inode whole piece is =
    piece ∙ ap (λ (bytes : List ℕ). slice_range bytes (512 * (ino % 8)) (512 * (ino % 8) + 512)) is ∙ inode_in_block g x ino (ap (λ (bytes : List ℕ). length bytes) (sym is) ∙ whole)
