-- Counting wide numbers one entry after the other, as a loop does.
use Rattle.std.proofs.Common.{◌≡◌, ℕ, zero, suc, ◌+◌, ◌-◌, ◌^◌, ◌<◌, ◌≤◌, true, cond, leb, List, ◌∷◌, length, slice_index, drop, Option, Some, None, refl, sym, ap, ◌∙◌, arith}
use Rattle.std.specs.Prelude.{count_by}
use Rattle.std.proofs.lemmas.Bool.{le-leb, lt-leb, and_from, cond_both}
use Rattle.std.proofs.lemmas.List.{drop-drop, length-drop}
use Rattle.std.proofs.lemmas.List.Sums.{sum_by-cons}
use Rattle.xn_bytes.specs.Numbers.{number_at}
use Rattle.xn_bytes.specs.Entries.{Entry}
use Rattle.xn_bytes.specs.ShortDirectory.{entry_in, entries_in, entry_size, entries_there, width_in, form_in}
use Rattle.xn_short.specs.Whole.{AreWhole}
use Rattle.xn_short.specs.Checks.{wide_count_in}
use Rattle.xn_short.proofs.Loop.{first_at}

pub whole_there : (count width : ℕ) (rest : List ℕ) → AreWhole count width rest → entries_there count width rest ≡ true
unfolding entries_there
whole_there zero width rest whole = refl
whole_there (suc count) width rest whole =
    and_from _ _ (le-leb (entry_size width rest) (length rest) whole.0.within) (whole_there count width (drop (entry_size width rest) rest) whole.1)

-- so many wide numbers and those of so many entries, where the entries' bytes are all there
abbrev pub counted : ℕ → ℕ → ℕ → List ℕ → Option ℕ
counted count width wide rest =
    cond (entries_there count width rest) (Some (wide + count_by (λ entry. leb (2 ^ 32) entry.ino) (entries_in count width rest))) None

-- one where the number at a place is wide
abbrev pub wide_one : ℕ → ℕ → List ℕ → ℕ
wide_one width at bytes = cond (leb (2 ^ 32) (number_at width at bytes)) 1 0

counted_one : (count width wide : ℕ) (rest : List ℕ) → entry_size width rest ≤ length rest
    → counted (suc count) width wide rest ≡ counted count width (wide + wide_one width (4 + slice_index rest 0) rest) (drop (entry_size width rest) rest)
unfolding entries_there entries_in
counted_one count width wide rest long =
    let behind : List Entry = entries_in count width (drop (entry_size width rest) rest) in
    let parts : count_by (λ entry. leb (2 ^ 32) entry.ino) (entry_in width rest ∷ behind) ≡ wide_one width (4 + slice_index rest 0) rest + count_by (λ entry. leb (2 ^ 32) entry.ino) behind = sum_by-cons (λ entry. cond (leb (2 ^ 32) entry.ino) 1 0) (entry_in width rest) behind in
    let sum : wide + count_by (λ entry. leb (2 ^ 32) entry.ino) (entry_in width rest ∷ behind) ≡ wide + wide_one width (4 + slice_index rest 0) rest + count_by (λ entry. leb (2 ^ 32) entry.ino) behind = omega (arith, parts) in
    rw (le-leb (entry_size width rest) (length rest) long, sum) refl

counted_missing : (count width wide : ℕ) (rest : List ℕ) → length rest < entry_size width rest → counted (suc count) width wide rest ≡ None
unfolding entries_there
counted_missing count width wide rest short = rw (lt-leb (entry_size width rest) (length rest) short) refl

pub record Counts (count i width wide at : ℕ) (bytes : List ℕ) (total : Option ℕ) : Type 0 where
  pub within : at ≤ length bytes
  pub few : wide ≤ i + 1
  pub left : counted (count - i) width wide (drop at bytes) ≡ total

one_at : (width n at : ℕ) (bytes : List ℕ) → wide_one width n (drop at bytes) ≡ wide_one width (at + n) bytes
unfolding number_at
one_at width n at bytes = rw (drop-drop n at bytes) refl

small_one : (width at : ℕ) (bytes : List ℕ) → wide_one width at bytes ≤ 1
small_one width at bytes = cond_both (leb (2 ^ 32) (number_at width at bytes)) 1 0 (λ n. n ≤ 1) (λ _. omega arith) (λ _. omega arith)

counted_from : (bytes : List ℕ) (width : ℕ) → width ≡ width_in bytes → counted (slice_index bytes 0) width (wide_one width 2 bytes) (drop (2 + width) bytes) ≡ wide_count_in bytes
unfolding form_in
counted_from bytes width is = ap (λ (w : ℕ). counted (slice_index bytes 0) w (wide_one w 2 bytes) (drop (2 + w) bytes)) is

pub counts_from : (bytes : List ℕ) (width w one : ℕ) → width ≡ width_in bytes → 2 + width ≤ length bytes → w ≡ width → one ≡ wide_one width 2 bytes → Counts (slice_index bytes 0) 0 width one (2 + w) bytes (wide_count_in bytes)
counts_from bytes width w one is long w_is one_is =
    let all : slice_index bytes 0 - 0 ≡ slice_index bytes 0 = omega arith in
    record {
      within = omega arith;
      few = omega (arith, small_one width 2 bytes);
      left = rw (all, w_is, one_is) (counted_from bytes width is);
    }

misses : (count i width wide at : ℕ) (bytes : List ℕ) (total : Option ℕ) → Counts count i width wide at bytes total → i < count → length (drop at bytes) < entry_size width (drop at bytes) → total ≡ None
misses count i width wide at bytes total so_far lt short =
    let k : count - i ≡ suc (count - (i + 1)) = omega arith in
    sym so_far.left ∙ ap (λ (n : ℕ). counted n width wide (drop at bytes)) k ∙ counted_missing (count - (i + 1)) width wide (drop at bytes) short

pub counts_on : (count i width w wide one at byte number next : ℕ) (bytes : List ℕ) (total : Option ℕ) → Counts count i width wide at bytes total → i < count → byte ≡ slice_index bytes at → w ≡ width → number ≡ at + (4 + byte) → next ≡ number + w → next ≤ length bytes
    → one ≡ wide_one width number bytes → Counts count (i + 1) width (wide + one) next bytes total
counts_on count i width w wide one at byte number next bytes total so_far lt byte_is w_is number_is next_is low one_is =
    let rest : List ℕ = drop at bytes in
    let first : slice_index rest 0 ≡ byte = first_at at bytes ∙ sym byte_is in
    let k : count - i ≡ suc (count - (i + 1)) = omega arith in
    let place : at + (4 + slice_index rest 0) ≡ number = omega arith in
    let end : at + entry_size width rest ≡ next = omega arith in
    let here : wide_one width (4 + slice_index rest 0) rest ≡ one = one_at width (4 + slice_index rest 0) at bytes ∙ ap (λ (n : ℕ). wide_one width n bytes) place ∙ sym one_is in
    let behind : drop (entry_size width rest) rest ≡ drop next bytes = drop-drop (entry_size width rest) at bytes ∙ ap (λ (n : ℕ). drop n bytes) end in
    let long : entry_size width rest ≤ length rest = omega (arith, length-drop at bytes) in
    let step = counted_one (count - (i + 1)) width wide rest long in
    record {
      within = low;
      few = omega (arith, so_far.few, small_one width number bytes);
      left =
          ap (λ (t : List ℕ). counted (count - (i + 1)) width (wide + one) t) (sym behind)
          ∙ ap (λ (n : ℕ). counted (count - (i + 1)) width (wide + n) (drop (entry_size width rest) rest)) (sym here)
          ∙ sym step
          ∙ ap (λ (n : ℕ). counted n width wide rest) (sym k)
          ∙ so_far.left;
    }

pub counts_missing : (count i width w wide at byte : ℕ) (bytes : List ℕ) (total : Option ℕ) → Counts count i width wide at bytes total → i < count → byte ≡ slice_index bytes at → w ≡ width → length bytes < at + (4 + byte) + w → total ≡ None
counts_missing count i width w wide at byte bytes total so_far lt byte_is w_is short =
    let rest : List ℕ = drop at bytes in
    let first : slice_index rest 0 ≡ byte = first_at at bytes ∙ sym byte_is in
    misses count i width wide at bytes total so_far lt (omega (arith, so_far.within, length-drop at bytes))

pub counts_past : (count i width wide at : ℕ) (bytes : List ℕ) (total : Option ℕ) → Counts count i width wide at bytes total → i < count → length bytes ≤ at → total ≡ None
counts_past count i width wide at bytes total so_far lt past = misses count i width wide at bytes total so_far lt (omega (arith, length-drop at bytes))

pub counts_all : (count i width wide at : ℕ) (bytes : List ℕ) (total : Option ℕ) → Counts count i width wide at bytes total → count ≤ i → total ≡ Some wide
unfolding entries_there entries_in
counts_all count i width wide at bytes total so_far le =
    let k : count - i ≡ 0 = omega arith in
    let one : counted (count - i) width wide (drop at bytes) ≡ Some wide = rw k (ap Some (omega arith)) in
    sym so_far.left ∙ one
