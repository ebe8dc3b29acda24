-- What a name in a directory is.
use Rattle.std.specs.Prelude.{◌≡◌, ◌≢◌, ◌⊎◌, ℕ, ◌<◌, ◌≤◌, List, [], ◌∷◌, length, All, slice_index}
use Rattle.xn_bytes.specs.declared.name.NameFault.{NameFault}
use Rattle.xn_bytes.specs.declared.name.NameFault.TheVariants.{Empty, Long, Byte, Dots, Memory}

-- a byte that no name has: 0 or `/`
abbrev pub IsForbidden : ℕ → Type 0
IsForbidden byte = (byte ≡ 0) ⊎ (byte ≡ 47)

-- `.` or `..`
abbrev pub IsDots : List ℕ → Type 0
IsDots bytes = (bytes ≡ 46 ∷ []) ⊎ (bytes ≡ 46 ∷ 46 ∷ [])

-- 1 to 255 bytes without 0 and `/`, and neither `.` nor `..`
pub record IsName (bytes : List ℕ) : Type 0 where
  pub some : 0 < length bytes
  pub short : length bytes ≤ 255
  pub allowed : All (λ byte. (byte ≢ 0) × (byte ≢ 47)) bytes
  pub no_dots : (bytes ≢ 46 ∷ []) × (bytes ≢ 46 ∷ 46 ∷ [])

-- a forbidden byte stands at that place, and none before it
pub record IsFirstForbidden (bytes : List ℕ) (at : ℕ) : Type 0 where
  pub within : at < length bytes
  pub forbidden : IsForbidden (slice_index bytes at)
  pub none_before : (k : ℕ) → k < at → (slice_index bytes k ≢ 0) × (slice_index bytes k ≢ 47)

-- why bytes are no name: the first of these that holds. Memory is asked for only where they are one
abbrev pub IsNameFault : List ℕ → NameFault → Type 0
IsNameFault bytes Empty = bytes ≡ []
IsNameFault bytes Long = 255 < length bytes
IsNameFault bytes (Byte at) = (length bytes ≤ 255) × IsFirstForbidden bytes at
IsNameFault bytes Dots = IsDots bytes
IsNameFault bytes Memory = IsName bytes
