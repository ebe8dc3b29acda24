-- The place of a fault is none past the bytes' end.
use Rattle.std.proofs.Common.{◌≡◌, ℕ, zero, suc, ◌+◌, ◌≤◌, ◌⊎◌, Bool, true, false, cond, not, ltb, List, length, slice_index, drop, Option, Some, None, Result, Ok, Err, refl, arith, inl, inr}
use Rattle.std.specs.Prelude.{is_none}
use Rattle.std.proofs.lemmas.Bool.{ltb-true, ltb-false}
use Rattle.std.proofs.lemmas.List.{length-drop}
use Rattle.xn_bytes.specs.Kinds.{kind_of_number}
use Rattle.xn_bytes.specs.Numbers.{number_at}
use Rattle.xn_bytes.specs.Entries.{data_entry_length}
use Rattle.xn_bytes.specs.ShortDirectory.{entry_size, entry_fault, entries_end, unless_fault, first_position, width_in, end_limit, after_entries, short_fault, fits_position}
use Rattle.xn_short.specs.Checks.{counts_wrong}
use Rattle.xn_short.proofs.OneEntry.{entry_passed}

-- where one of two places is the fault, and neither is past n
guarded : (n : ℕ) (test : Bool) (place fault : ℕ) (next : Option ℕ) → cond test (Some place) next ≡ Some fault → (test ≡ true → place ≤ n) → (next ≡ Some fault → test ≡ false → fault ≤ n) → fault ≤ n
guarded n true place fault next e here later = let same : place ≡ fault = cc in omega (arith, here refl)
guarded n false place fault next e here later = later e refl

not_none : (n fault : ℕ) → None ≡ Some fault → fault ≤ n
not_none n fault e = absurd cc

entry_within : (width least limit at fault : ℕ) (rest : List ℕ) → entry_fault width least limit at rest ≡ Some fault → fault ≤ at + length rest
unfolding entry_fault
entry_within width least limit at fault rest e =
    let n : ℕ = at + length rest in
    let name : ℕ = slice_index rest 0 in
    guarded n (ltb (length rest) 3) n fault _ e (λ _. omega arith) (λ e1 long. let head = ltb-false (length rest) 3 long in
    guarded n (not (fits_position least limit name (number_at 2 1 rest))) (at + 1) fault _ e1 (λ _. omega arith) (λ e2 _.
    guarded n (ltb (length rest) (4 + name)) n fault _ e2 (λ _. omega arith) (λ e3 whole. let named = ltb-false (length rest) (4 + name) whole in
    guarded n (is_none (kind_of_number (slice_index rest (3 + name)))) (at + 3 + name) fault _ e3 (λ _. omega arith) (λ e4 _.
    guarded n (ltb (length rest) (entry_size width rest)) n fault None e4 (λ _. omega arith) (λ e5 _. not_none n fault e5)))))

either_fault : (first : Option ℕ) (next : Result ℕ ℕ) (fault : ℕ) → unless_fault first next ≡ Err fault → (first ≡ Some fault) ⊎ ((first ≡ None) × (next ≡ Err fault))
either_fault None next fault e = inr (refl, e)
either_fault (Some place) next fault e = inl cc

entries_within : (count width least limit at fault : ℕ) (rest : List ℕ) → entries_end count width least limit at rest ≡ Err fault → fault ≤ at + length rest
unfolding entries_end
entries_within zero width least limit at fault rest e = absurd cc
entries_within (suc count) width least limit at fault rest e =
    let cases = either_fault _ _ fault e in
    elim cases [
      | inl here ↦ entry_within width least limit at fault rest here
      | inr later ↦
          let whole = (entry_passed width least limit at rest later.0).whole.within in
          let behind = entries_within count width (number_at 2 1 rest + data_entry_length (slice_index rest 0)) limit (at + entry_size width rest) fault (drop (entry_size width rest) rest) later.1 in
          omega (arith, length-drop (entry_size width rest) rest)
    ]

after_within : (bytes : List ℕ) (end : Result ℕ ℕ) (fault : ℕ) → ((place : ℕ) → end ≡ Err place → place ≤ length bytes) → after_entries bytes end ≡ Some fault → fault ≤ length bytes
after_within bytes (Err place) fault within e = let here : place ≡ fault = cc in omega (arith, within place refl)
after_within bytes (Ok end) fault within e =
    guarded (length bytes) (ltb end (length bytes)) end fault None e (λ more. omega (arith, ltb-true end (length bytes) more)) (λ e1 _. not_none (length bytes) fault e1)

pub fault_within : (bytes : List ℕ) (fault : ℕ) → short_fault bytes ≡ Some fault → fault ≤ length bytes
unfolding short_fault
fault_within bytes fault e =
    let width : ℕ = width_in bytes in
    let end : Result ℕ ℕ = entries_end (slice_index bytes 0) width first_position (end_limit (slice_index bytes 0)) (2 + width) (drop (2 + width) bytes) in
    guarded (length bytes) (ltb (length bytes) 2) (length bytes) fault _ e (λ _. omega arith) (λ e1 _.
    guarded (length bytes) (ltb (length bytes) (2 + width)) (length bytes) fault _ e1 (λ _. omega arith) (λ e2 whole.
    let long = ltb-false (length bytes) (2 + width) whole in
    guarded (length bytes) (counts_wrong bytes) 1 fault (after_entries bytes end) e2 (λ _. omega arith) (λ e3 _.
    after_within bytes end fault (λ place is. omega (arith, entries_within (slice_index bytes 0) width first_position (end_limit (slice_index bytes 0)) (2 + width) place (drop (2 + width) bytes) is, length-drop (2 + width) bytes)) e3)))
