-- The manifest of an image: which inodes are in use, and which blocks are the pool's, from which new blocks are taken. It is a
-- text of this project's own, written by whoever owns the image.
use Rattle.std.specs.Prelude.{◌≡◌, ◌⊎◌, ℕ, zero, suc, ◌+◌, ◌-◌, ◌/◌, ◌%◌, ◌^◌, ◌<◌, ◌≤◌, Bool, false, ◌==◌, if◌then◌else◌, List, [], ◌∷◌, ◌++◌, take, map, sum_by, flat_map, Any, codes, decimal}
use Rattle.xn_bytes.specs.Superblock.{Geometry, IsOwnInode}
use Rattle.xn_bytes.specs.Blocks.{IsHome}
use Rattle.xn_bytes.specs.Escapes.{hex_digit}
use Rattle.xn_meaning.specs.Replies.{space, newline}
use Rattle.xn_meaning.specs.Paths.{onto}

-- Chunks of 64 inodes, each with its first one and a mask of those that are not in use; and runs of the pool, each with its
-- first block and how many blocks it has.
pub record Manifest : Type 0 where
  pub chunks : List (ℕ × ℕ)
  pub runs : List (ℕ × ℕ)

-- ---- what it says

-- bit `k` of a mask is set, counted from the lowest
abbrev pub has_bit : ℕ → ℕ → Bool
has_bit mask k = mask / 2 ^ k % 2 == 1

-- an inode is one of the chunk's that are in use
pub record ChunkLists (ino : ℕ) (chunk : ℕ × ℕ) : Type 0 where
  pub from : chunk.0 ≤ ino
  pub below : ino < chunk.0 + 64
  pub in_use : has_bit chunk.1 (ino - chunk.0) ≡ false

-- the manifest lists an inode
abbrev pub Lists : Manifest → ℕ → Type 0
Lists m ino = Any (ChunkLists ino) m.chunks

-- a live inode: listed, and none of the superblock's own
pub record IsLive (g : Geometry) (m : Manifest) (ino : ℕ) : Type 0 where
  pub listed : Lists m ino
  pub not_own : ¬ IsOwnInode g ino

-- a block is one of the run's
pub record RunHas (block : ℕ) (run : ℕ × ℕ) : Type 0 where
  pub from : run.0 ≤ block
  pub below : block < run.0 + run.1

-- a block is one of the pool's
abbrev pub InPool : Manifest → ℕ → Type 0
InPool m block = Any (RunHas block) m.runs

-- Rule 2: each listed inode stands in a block that is in range, outside the log and not the first of its group; so does each
-- block of the pool, and none of the pool's holds a listed inode.
pub record HasPlaces (g : Geometry) (m : Manifest) : Type 0 where
  pub inodes : (ino : ℕ) → Lists m ino → IsHome g (ino / 8)
  pub pool : (block : ℕ) → InPool m block → IsHome g block
  pub apart : (ino : ℕ) → Lists m ino → ¬ InPool m (ino / 8)

-- ---- its text

-- the greatest number of bytes that a manifest may have
abbrev pub most_bytes : ℕ
most_bytes = 1048576

-- the greatest number of blocks that a pool may have
abbrev pub most_pool_blocks : ℕ
most_pool_blocks = 16777216

-- each chunk begins at or behind the end of the one before it
abbrev pub AreChunks : ℕ → List (ℕ × ℕ) → Type 0
AreChunks least [] = Unit {0}
AreChunks least (chunk ∷ chunks) = (least ≤ chunk.0) × (chunk.0 ≤ 2 ^ 56) × (chunk.1 < 2 ^ 64) × AreChunks (chunk.0 + 64) chunks

-- so does each run, and none is empty
abbrev pub ArePoolRuns : ℕ → List (ℕ × ℕ) → Type 0
ArePoolRuns least [] = Unit {0}
ArePoolRuns least (run ∷ runs) = (least ≤ run.0) × (0 < run.1) × (run.0 + run.1 ≤ 2 ^ 56) × ArePoolRuns (run.0 + run.1) runs

-- what a manifest may say
pub record IsManifest (m : Manifest) : Type 0 where
  pub chunks : AreChunks 0 m.chunks
  pub runs : ArePoolRuns 0 m.runs
  pub few : sum_by (λ run. run.1) m.runs ≤ most_pool_blocks

-- so many hexadecimal digits of a number, the highest first
abbrev pub hex_digits : ℕ → ℕ → List ℕ
hex_digits zero n = []
hex_digits (suc count) n = hex_digits count (n / 16) ++ hex_digit (n % 16) ∷ []

-- the first line
abbrev pub header_line : List ℕ
header_line = codes "xfsns-manifest 1"

-- `chunk START MASK`, the mask in 16 hexadecimal digits
abbrev pub chunk_line : ℕ × ℕ → List ℕ
chunk_line chunk = codes "chunk " ++ decimal chunk.0 ++ space ∷ hex_digits 16 chunk.1

-- `pool BLOCK COUNT`
abbrev pub pool_line : ℕ × ℕ → List ℕ
pool_line run = codes "pool " ++ decimal run.0 ++ space ∷ decimal run.1

-- the lines of a manifest
abbrev pub manifest_lines : Manifest → List (List ℕ)
manifest_lines m = header_line ∷ map chunk_line m.chunks ++ map pool_line m.runs

-- the lines of a text: each ends with a newline, the last one with that or with the text
abbrev pub lines_in : List ℕ → List (List ℕ)
lines_in [] = []
lines_in (byte ∷ bytes) = if byte == newline then [] ∷ lines_in bytes else onto byte (lines_in bytes)

-- the lines are those of a manifest
abbrev pub SpellManifest : List (List ℕ) → Manifest → Type 0
SpellManifest lines m = IsManifest m × (lines ≡ manifest_lines m)

-- the text of a manifest
abbrev pub IsTextOf : List ℕ → Manifest → Type 0
IsTextOf text m = SpellManifest (lines_in text) m

-- The number of the first line that is outside the grammar, counted from 1: the lines in front of it, if there are any, are
-- those of a manifest, and with it they are those of none. A text without lines lacks the first one.
pub record IsFirstBadLine (text : List ℕ) (number : ℕ) : Type 0 where
  pub counted : 0 < number
  pub front : (number ≡ 1) ⊎ ((m : Manifest) × SpellManifest (take (number - 1) (lines_in text)) m)
  pub none : (m : Manifest) → ¬ SpellManifest (take number (lines_in text)) m

-- the text that is written of a manifest
abbrev pub manifest_text : Manifest → List ℕ
manifest_text m = flat_map (λ line. line ++ newline ∷ []) (manifest_lines m)
