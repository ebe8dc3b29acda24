-- What is noted of data blocks, and bests that say the same.
use Rattle.std.specs.Prelude.{◌≡◌, ℕ, ◌+◌, ◌*◌, ◌<◌, ◌≤◌, ◌==◌, if◌then◌else◌, List, [], ◌∷◌, length, slice_index, All, Option, Some, None, IsSome, unwrap_or}
use Rattle.std.specs.List.{AllAdjacentBelow}
use Rattle.xn_bytes.specs.Superblock.{Geometry, sector_of_block}
use Rattle.xn_bytes.specs.Extents.{Run, mapped}
use Rattle.xn_bytes.specs.HashedTree.{FreeForm, FreeHolds, best_at, free_file_block, no_best}
use Rattle.xn_bytes.specs.LeafForms.{Placed, best_of}
use Rattle.xn_dir.specs.declared.bests.Best.{Best}

abbrev pub noted : Placed → Best
noted placed = record { number = placed.number; best = best_of placed }

-- numbers rise
abbrev pub AreRising : List Best → Type 0
AreRising bests = AllAdjacentBelow (λ a b. a.number < b.number) bests (length bests)

-- what is noted of a number, if anything is
abbrev pub noted_for : ℕ → List Best → Option ℕ
noted_for number [] = None
noted_for number (best ∷ others) = if best.number == number then Some best.best else noted_for number others

-- the same where the one that can be of the number is found
abbrev pub noted_at : ℕ → Option Best → Option ℕ
noted_at number None = None
noted_at number (Some best) = noted_for number (best ∷ [])

-- so many bests that the single leaf has, and what is noted of each number
pub record AreNoted (last : ℕ) (noted : List Best) (bests : List ℕ) : Type 0 where
  pub count : length bests ≡ last + 1
  pub each : (number : ℕ) → number < length bests → slice_index bests number ≡ unwrap_or (noted_for number noted) no_best

-- a free-index block's place, uuid and owner are its own
pub record IsOwnFree (g : Geometry) (dir block : ℕ) (form : FreeForm) : Type 0 where
  pub place : form.place ≡ sector_of_block g block
  pub uuid : form.uuid ≡ g.meta_uuid
  pub owner : form.owner ≡ dir

-- the bests of its 2,016 numbers, from the first on, are what is noted
abbrev pub HasNoted : ℕ → List Best → List ℕ → Type 0
HasNoted first noted bests = (slot : ℕ) → slot < 2016 → best_at bests slot ≡ noted_for (first + slot) noted

-- bytes are the free-index block of an index
pub record IsNotedIndex (g : Geometry) (dir : ℕ) (noted : List Best) (index block : ℕ) (bytes : List ℕ) : Type 0 where
  pub form : FreeForm
  pub holds : FreeHolds bytes form
  pub own : IsOwnFree g dir block form
  pub number : form.index ≡ index
  pub each : HasNoted (2016 * index) noted form.bests

-- a file block that a free-index block can have, and that is mapped
abbrev pub IsFreeBlock : List Run → ℕ → Type 0
IsFreeBlock runs file_block = (free_file_block ≤ file_block) × IsSome (mapped runs file_block)

-- at most one fetch for each of these file blocks
pub record FetchesFree (runs : List Run) (before now : ℕ) : Type 0 where
  pub read : List ℕ
  pub rising : AllAdjacentBelow (λ a b. a < b) read (length read)
  pub free : All (IsFreeBlock runs) read
  pub fetches : now ≤ before + length read
