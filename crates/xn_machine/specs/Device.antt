-- What calls of a machine do to its image and to what it told. Each is known of some machines only.
use Rattle.std.specs.Prelude.{◌≡◌, ◌⊎◌, ℕ, ◌+◌, ◌*◌, ◌/◌, ◌%◌, ◌<◌, ◌≤◌, List, ◌++◌, length, take, slice_range, Option, None, IsSomeAnd, MatchOption, option_map}
use Rattle.xn_bytes.specs.Numbers.{overlaid, sector_of}

-- so many bytes from a sector on are one or more whole sectors of the machine
pub record IsSectors (count sector bytes : ℕ) : Type 0 where
  pub whole : bytes % 512 ≡ 0
  pub some : 0 < bytes
  pub within : sector + bytes / 512 ≤ count

-- the bytes as a read of so many from a sector on shows them
abbrev pub read_from : List ℕ → ℕ → ℕ → List ℕ
read_from image sector bytes = slice_range image (512 * sector) (512 * sector + bytes)

-- the image with bytes written from a sector on
abbrev pub written_at : List ℕ → ℕ → List ℕ → List ℕ
written_at image sector bytes = overlaid image (512 * sector) bytes

-- After a write that failed each sector reads as it was or as it was to be, each by itself.
pub record IsTorn (image : List ℕ) (sector : ℕ) (bytes now : List ℕ) : Type 0 where
  pub as_long : length now ≡ length image
  pub each : (k : ℕ) → (sector_of now k ≡ sector_of image k) ⊎ (sector_of now k ≡ sector_of (written_at image sector bytes) k)

-- a fact of the old and the new image, where the machine tells its sectors; else it goes on not to tell them
abbrev pub BothImages : Option (List ℕ) → Option (List ℕ) → (List ℕ → List ℕ → Type 0) → Type 0
BothImages before now P = MatchOption before (now ≡ None) (λ x. IsSomeAnd now (λ y. P x y))

-- a front of the bytes was told
abbrev pub TellsFront : Option (List ℕ) → Option (List ℕ) → List ℕ → Type 0
TellsFront before now bytes = (count : ℕ) × (now ≡ option_map (λ told. told ++ take count bytes) before)
