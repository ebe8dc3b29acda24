-- How long what is stored is.
use Rattle.std.specs.Prelude.{ℕ, ◌≡◌, ◌+◌, Bool, true, false, if◌then◌else◌, List, ◌++◌, length}
use Rattle.std.proofs.Common.{ap, arith}
use Rattle.std.proofs.lemmas.List.{length-append}
use Rattle.byteorder.specs.Numbers.{length-bytes_high_first}
use Rattle.xn_bytes.specs.Numbers.{little_number_at}
use Rattle.xn_settled.specs.Inodes.{has_wide_times, stored, stored_time}

pub length-stored : (width at : ℕ) (core : List ℕ) → length (stored width at core) ≡ width
unfolding stored
length-stored width at core = length-bytes_high_first width (little_number_at width at core)

chosen : (wide : Bool) (at : ℕ) (core : List ℕ) → length (if wide then stored 8 at core else stored 4 at core ++ stored 4 (at + 4) core) ≡ 8
chosen true at core = length-stored 8 at core
chosen false at core = omega (arith, length-append (stored 4 at core) (stored 4 (at + 4) core), length-stored 4 at core, length-stored 4 (at + 4) core)

pub length-stored_time : (at : ℕ) (core : List ℕ) → length (stored_time at core) ≡ 8
unfolding stored_time little_number_at
length-stored_time at core = chosen (has_wide_times core) at core

-- a time stamp where it is one number
pub time_of_one : (at : ℕ) (core : List ℕ) → has_wide_times core ≡ true → stored_time at core ≡ stored 8 at core
unfolding stored_time little_number_at
time_of_one at core wide = ap (λ is_wide. if is_wide then stored 8 at core else stored 4 at core ++ stored 4 (at + 4) core) wide

-- a time stamp where it is two
pub time_of_two : (at : ℕ) (core : List ℕ) → has_wide_times core ≡ false → stored_time at core ≡ stored 4 at core ++ stored 4 (at + 4) core
unfolding stored_time little_number_at
time_of_two at core narrow = ap (λ is_wide. if is_wide then stored 8 at core else stored 4 at core ++ stored 4 (at + 4) core) narrow
