-- What a view keeps, and the image that it shows over that of a machine.
use Rattle.std.specs.Prelude.{◌≡◌, ℕ, ◌+◌, ◌*◌, ◌<◌, ◌≤◌, List, [], ◌∷◌, length, take, All, Option, IsSome}
use Rattle.std.specs.Ordering.{nat_cmp}
use Rattle.std.specs.Map.{keys_of, values_of, lookup}
use Rattle.std.specs.BTreeMap.{is_at}
use Rattle.xn_bytes.specs.Numbers.{overlaid}
use Rattle.xn_bytes.specs.Superblock.{Geometry}

-- What the superblock says; the sectors that are kept, each as its number and its 512 bytes: rising, each once; and the
-- pool's blocks, and those of them that are free.
pub record ViewState : Type 0 where
  pub shape : Geometry
  pub kept : List (ℕ × List ℕ)
  pub blocks : List ℕ
  pub free : List ℕ

-- the image with the kept sectors laid over it
abbrev pub shown : List ℕ → List (ℕ × List ℕ) → List ℕ
shown image [] = image
shown image (e ∷ es) = overlaid (shown image es) (512 * e.0) e.1

-- the bytes that are kept of a sector
abbrev pub kept_at : List (ℕ × List ℕ) → ℕ → Option (List ℕ)
kept_at kept sector = lookup (is_at (nat_cmp sector)) kept

-- each of so many sectors from one on is kept
abbrev pub AreAllKept : List (ℕ × List ℕ) → ℕ → ℕ → Type 0
AreAllKept kept first count = (k : ℕ) → k < count → IsSome (kept_at kept (first + k))

-- what is kept are whole sectors of an image of so many
pub record AreKept (sectors : ℕ) (kept : List (ℕ × List ℕ)) : Type 0 where
  pub within : All (λ sector. sector < sectors) (keys_of kept)
  pub whole : All (λ bytes. length bytes ≡ 512) (values_of kept)

-- Over any image that has these sectors, what is kept now shows as what was kept with the bytes from a sector on.
pub record LaysOver (old new : List (ℕ × List ℕ)) (first : ℕ) (bytes : List ℕ) : Type 0 where
  pub kept : (sectors : ℕ) → 512 * first + length bytes ≤ 512 * sectors → AreKept sectors old → AreKept sectors new
  pub image : (sectors : ℕ) (image : List ℕ) → length image ≡ 512 * sectors → 512 * first + length bytes ≤ 512 * sectors → AreKept sectors old → shown image new ≡ overlaid (shown image old) (512 * first) bytes

-- so does a front of the bytes, of whole sectors
abbrev pub LaysFront : List (ℕ × List ℕ) → List (ℕ × List ℕ) → ℕ → List ℕ → Type 0
LaysFront old new first bytes = (count : ℕ) × (512 * count ≤ length bytes) × LaysOver old new first (take (512 * count) bytes)
