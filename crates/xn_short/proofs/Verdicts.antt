-- What the checks of a form find, in one place.
use Rattle.std.proofs.Common.{◌≡◌, ℕ, ◌+◌, ◌<◌, ◌≤◌, true, false, ltb, List, length, slice_index, drop, Some, None, Result, Ok, Err, refl, subst, ◌∙◌, arith}
use Rattle.std.proofs.lemmas.Bool.{lt-ltb, le-ltb}
use Rattle.xn_bytes.specs.ShortDirectory.{entries_end, first_position, width_in, end_limit, after_entries, short_fault}
use Rattle.xn_short.specs.Checks.{counts_wrong}

abbrev pub end_at : ℕ → List ℕ → Result ℕ ℕ
end_at width bytes = entries_end (slice_index bytes 0) width first_position (end_limit (slice_index bytes 0)) (2 + width) (drop (2 + width) bytes)

pub at_count : (bytes : List ℕ) (width : ℕ) → width ≡ width_in bytes → 2 + width ≤ length bytes → counts_wrong bytes ≡ true → short_fault bytes ≡ Some 1
unfolding short_fault
at_count bytes width is long wrong =
    let a : ltb (length bytes) 2 ≡ false = le-ltb _ _ (omega arith) in
    let b : ltb (length bytes) (2 + width_in bytes) ≡ false = le-ltb _ _ (omega arith) in
    rw (a, b, wrong) refl

fault_is : (bytes : List ℕ) (width : ℕ) (end : Result ℕ ℕ) → width ≡ width_in bytes → 2 + width ≤ length bytes → counts_wrong bytes ≡ false → end_at width bytes ≡ end → short_fault bytes ≡ after_entries bytes end
unfolding short_fault
fault_is bytes width end is long right ended =
    let a : ltb (length bytes) 2 ≡ false = le-ltb _ _ (omega arith) in
    let b : ltb (length bytes) (2 + width_in bytes) ≡ false = le-ltb _ _ (omega arith) in
    let e : end_at (width_in bytes) bytes ≡ end = subst (λ (w : ℕ). end_at w bytes ≡ end) is ended in
    rw (a, b, right, e) refl

pub at_entry : (bytes : List ℕ) (width fault : ℕ) → width ≡ width_in bytes → 2 + width ≤ length bytes → counts_wrong bytes ≡ false → end_at width bytes ≡ Err fault → short_fault bytes ≡ Some fault
at_entry bytes width fault is long right ended = fault_is bytes width (Err fault) is long right ended

pub at_end : (bytes : List ℕ) (width end : ℕ) → width ≡ width_in bytes → 2 + width ≤ length bytes → counts_wrong bytes ≡ false → end_at width bytes ≡ Ok end → end < length bytes → short_fault bytes ≡ Some end
at_end bytes width end is long right ended more = fault_is bytes width (Ok end) is long right ended ∙ rw (lt-ltb end (length bytes) more) refl

pub at_nothing : (bytes : List ℕ) (width end : ℕ) → width ≡ width_in bytes → 2 + width ≤ length bytes → counts_wrong bytes ≡ false → end_at width bytes ≡ Ok end → length bytes ≤ end → short_fault bytes ≡ None
at_nothing bytes width end is long right ended all = fault_is bytes width (Ok end) is long right ended ∙ rw (le-ltb end (length bytes) all) refl
