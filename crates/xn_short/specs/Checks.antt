-- What the checks of a form answer.
use Rattle.std.specs.Prelude.{◌≡◌, ◌+◌, ◌==◌, ◌&&◌, ℕ, Bool, not, if◌then◌else◌, List, drop, slice_index, Option, Some, None, Result, Ok, Err, MatchResult}
use Rattle.xn_bytes.specs.ShortDirectory.{entries_there, wide_numbers, width_in, form_in}
use Rattle.xn_short.specs.declared.fault.ShortFault.{ShortFault}

-- an error exactly where there is a fault, with its place
abbrev pub FindsFault : {T : Type 0} → Option ℕ → Result T ShortFault → Type 0
FindsFault fault result = MatchResult result (λ _. fault ≡ None) (λ found. fault ≡ Some found.at)

-- the place that is looked for, or the fault that comes before it
abbrev pub FindsEnd : Result ℕ ℕ → Result ℕ ShortFault → Type 0
FindsEnd end result = MatchResult result (λ at. end ≡ Ok at) (λ found. end ≡ Err found.at)

-- whether the bytes of all the entries are there
abbrev pub all_there : List ℕ → Bool
all_there bytes = entries_there (slice_index bytes 0) (width_in bytes) (drop (2 + width_in bytes) bytes)

-- how many inode numbers are wide, where they are all there
abbrev pub wide_count_in : List ℕ → Option ℕ
wide_count_in bytes = if all_there bytes then Some (wide_numbers (form_in bytes)) else None

-- whether the inode numbers are all there, and byte 1 is not the count of the wide ones
abbrev pub counts_wrong : List ℕ → Bool
counts_wrong bytes = all_there bytes && not (wide_numbers (form_in bytes) == slice_index bytes 1)
