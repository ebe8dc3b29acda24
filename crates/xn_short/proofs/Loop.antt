-- Checking entries one after the other, as a loop does.
use Rattle.std.proofs.Common.{◌≡◌, ℕ, suc, ◌+◌, ◌-◌, ◌<◌, ◌≤◌, List, length, slice_index, drop, Some, None, Result, Ok, Err, refl, sym, ap, ◌∙◌, arith}
use Rattle.std.proofs.lemmas.List.{get_or-drop, drop-drop, length-drop}
use Rattle.xn_bytes.specs.Numbers.{number_at}
use Rattle.xn_bytes.specs.Entries.{data_entry_length}
use Rattle.xn_bytes.specs.ShortDirectory.{entry_size, entry_fault, entries_end}
use Rattle.xn_short.proofs.OneEntry.{entry_passed}

pub first_at : (at : ℕ) (bytes : List ℕ) → slice_index (drop at bytes) 0 ≡ slice_index bytes at
first_at at bytes = let e : at + 0 ≡ at = omega arith in get_or-drop at bytes 0 0 ∙ ap (slice_index bytes) e

-- an entry with no fault has a first byte, and the three that its position needs
pub reaches : (width least limit at : ℕ) (bytes rest : List ℕ) → rest ≡ drop at bytes → entry_fault width least limit at rest ≡ None → (3 ≤ length rest) × (at < length bytes)
reaches width least limit at bytes rest is sound =
    let within = (entry_passed width least limit at rest sound).whole.within in
    (omega arith, omega (arith, ap length is, length-drop at bytes))

-- the entry that passes, and those that are left
next_end : (count i width least limit at : ℕ) (rest : List ℕ) → i < count → entry_fault width least limit at rest ≡ None
    → entries_end (count - i) width least limit at rest ≡ entries_end (count - (i + 1)) width (number_at 2 1 rest + data_entry_length (slice_index rest 0)) limit (at + entry_size width rest) (drop (entry_size width rest) rest)
unfolding entries_end
next_end count i width least limit at rest lt sound =
    let k : count - i ≡ suc (count - (i + 1)) = omega arith in
    rw (k, sound) refl

pub record Goes (count i width least limit at : ℕ) (bytes : List ℕ) (total : Result ℕ ℕ) : Type 0 where
  pub within : at ≤ length bytes
  pub ends : entries_end (count - i) width least limit at (drop at bytes) ≡ total

pub goes_on : (count i width w least limit at next byte : ℕ) (bytes rest : List ℕ) (total : Result ℕ ℕ) → i < count → at ≤ length bytes → rest ≡ drop at bytes → entry_fault width least limit at rest ≡ None
    → next ≡ number_at 2 1 rest + data_entry_length (slice_index rest 0) → byte ≡ slice_index bytes at → w ≡ width → entries_end (count - i) width least limit at (drop at bytes) ≡ total
    → Goes count (i + 1) width next limit (at + (4 + byte + w)) bytes total
goes_on count i width w least limit at next byte bytes rest total lt low is sound next_is byte_is w_is so_far =
    let first : slice_index rest 0 ≡ byte = ap (λ (t : List ℕ). slice_index t 0) is ∙ first_at at bytes ∙ sym byte_is in
    let whole = (entry_passed width least limit at rest sound).whole.within in
    let size : entry_size width rest ≡ 4 + byte + w = omega arith in
    let on : entries_end (count - i) width least limit at rest ≡ entries_end (count - (i + 1)) width next limit (at + (4 + byte + w)) (drop (4 + byte + w) rest) = next_end count i width least limit at rest lt sound ∙ rw (next_is, size) refl in
    let behind : drop (4 + byte + w) rest ≡ drop (at + (4 + byte + w)) bytes = ap (drop (4 + byte + w)) is ∙ drop-drop (4 + byte + w) at bytes in
    record {
      within = omega (arith, ap length is, length-drop at bytes);
      ends =
          ap (entries_end (count - (i + 1)) width next limit (at + (4 + byte + w))) (sym behind)
          ∙ sym on
          ∙ ap (entries_end (count - i) width least limit at) is
          ∙ so_far;
    }

pub stops : (count i width least limit at fault : ℕ) (bytes rest : List ℕ) (total : Result ℕ ℕ) → i < count → rest ≡ drop at bytes → entry_fault width least limit at rest ≡ Some fault → entries_end (count - i) width least limit at (drop at bytes) ≡ total → total ≡ Err fault
unfolding entries_end
stops count i width least limit at fault bytes rest total lt is wrong so_far =
    let k : count - i ≡ suc (count - (i + 1)) = omega arith in
    let one : entries_end (count - i) width least limit at rest ≡ Err fault = rw (k, wrong) refl in
    sym so_far ∙ ap (entries_end (count - i) width least limit at) (sym is) ∙ one

pub is_done : (count i width least limit at : ℕ) (rest : List ℕ) (total : Result ℕ ℕ) → count ≤ i → entries_end (count - i) width least limit at rest ≡ total → total ≡ Ok at
unfolding entries_end
is_done count i width least limit at rest total le so_far =
    let k : count - i ≡ 0 = omega arith in
    let one : entries_end (count - i) width least limit at rest ≡ Ok at = rw k refl in
    sym so_far ∙ one
