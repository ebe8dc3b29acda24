-- What a record of calls says: each call that succeeded, in order, and in a list of its own what they wrote.
use Rattle.std.specs.Prelude.{◌≡◌, ℕ, ◌+◌, List, [], ◌∷◌, length, take, drop}
use Rattle.xn_machine.specs.Device.{written_at}
use Rattle.xn_machine.specs.declared.memory.Call.{Call}
use Rattle.xn_machine.specs.declared.memory.Call.TheVariants.{Read, Write, Sync, Say}

-- how many bytes the calls wrote
abbrev pub bytes_written : List Call → ℕ
bytes_written [] = 0
bytes_written (Read ∷ calls) = bytes_written calls
bytes_written (Write sector count ∷ calls) = count + bytes_written calls
bytes_written (Sync ∷ calls) = bytes_written calls
bytes_written (Say count ∷ calls) = bytes_written calls

-- how many they told
abbrev pub bytes_told : List Call → ℕ
bytes_told [] = 0
bytes_told (Read ∷ calls) = bytes_told calls
bytes_told (Write sector count ∷ calls) = bytes_told calls
bytes_told (Sync ∷ calls) = bytes_told calls
bytes_told (Say count ∷ calls) = count + bytes_told calls

-- the image that the calls leave of an image, by the bytes that they wrote, one after another
abbrev pub replayed : List ℕ → List Call → List ℕ → List ℕ
replayed image [] written = image
replayed image (Read ∷ calls) written = replayed image calls written
replayed image (Write sector count ∷ calls) written =
    replayed (written_at image sector (take count written)) calls (drop count written)
replayed image (Sync ∷ calls) written = replayed image calls written
replayed image (Say count ∷ calls) written = replayed image calls written

-- The record accounts for the image that is there now, for each byte in its list, and for each byte told.
pub record IsRecord (original : List ℕ) (done : List Call) (written image told : List ℕ) : Type 0 where
  pub leads_here : image ≡ replayed original done written
  pub has_writes : length written ≡ bytes_written done
  pub has_tells : length told ≡ bytes_told done
