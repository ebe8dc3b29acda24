-- The two laws of forms: bytes with no fault spell the form that is read in them, and what spells a form has no fault
-- and is read as that form.
use Rattle.std.proofs.Common.{◌≡◌, ℕ, ◌+◌, ◌-◌, ◌^◌, ◌<◌, ◌≤◌, Bool, true, false, ◌&&◌, not, cond, leb, ltb, eqb, List, [], ◌∷◌, ◌++◌, length, slice_index, take, drop, Option, Some, None, Result, Ok, Err, All, refl, sym, ap, subst, ◌∙◌, arith, inl, inr}
use Rattle.std.specs.Prelude.{count_by}
use Rattle.std.specs.List.{flat_map, AllByRecursion}
use Rattle.std.proofs.lemmas.Bool.{cases_eq, eqb-true, eq-eqb, ne_eqb, ltb-false, le-ltb, leb-false, not-false, cond_both}
use Rattle.std.proofs.lemmas.List.{append-nil, drop_at, drop_more, drop-drop, take-append-drop, take_rest, nil_from_length, length-append, length-drop}
use Rattle.std.proofs.lemmas.List.Elements.{All-from_recursion, All-head, All-tail}
use Rattle.std.proofs.lemmas.List.Sums.{sum_by-cons}
use Rattle.byteorder.specs.Endian.{big_bytes}
use Rattle.byteorder.specs.Numbers.{big_from-lt, big_number-reads_back, length-bytes_high_first}
use Rattle.xn_bytes.specs.Numbers.{number_at}
use Rattle.xn_bytes.specs.Entries.{Entry}
use Rattle.xn_bytes.specs.ShortDirectory.{ShortForm, wide_numbers, number_width, entry_spelling, short_spelling, first_position, FitsEntry, IsShortForm, ShortHolds, entries_in, entries_there, entries_end, width_in, form_in, end_limit, after_entries, short_fault}
use Rattle.xn_short.specs.Whole.{AreWhole}
use Rattle.xn_short.proofs.Numbers.{IsBytes, IsBytes-drop, IsWidth, four_bytes, eight_bytes}
use Rattle.xn_short.proofs.Counting.{whole_there}
use Rattle.xn_short.proofs.Entries.{length-entries_in, entries_whole, entries_read, FitsWidth, entries_again}

is_width : (count : ℕ) → IsWidth (number_width count)
is_width count = cond_both (eqb count 0) 4 8 IsWidth (λ _. four_bytes) (λ _. eight_bytes)

guard_none : (b : Bool) (x : ℕ) (next : Option ℕ) → cond b (Some x) next ≡ None → (b ≡ false) × (next ≡ None)
guard_none true x next e = absurd cc
guard_none false x next e = (refl, e)

-- ---- bytes with no fault

right_if_there : (there right : Bool) → there ≡ true → there && not right ≡ false → right ≡ true
right_if_there true right is e = not-false right e
right_if_there false right is e = absurd cc

pub record HasEnd (bytes : List ℕ) (read : Result ℕ ℕ) : Type 0 where
  pub end : ℕ
  pub is_end : read ≡ Ok end
  pub last : length bytes ≤ end

has_end : (bytes : List ℕ) (read : Result ℕ ℕ) → after_entries bytes read ≡ None → HasEnd bytes read
has_end bytes (Err fault) e = absurd cc
has_end bytes (Ok end) e =
    let g0 = guard_none _ _ _ e in
    record { end = end; is_end = refl; last = ltb-false _ _ g0.0 }

abbrev pub end_in : List ℕ → Result ℕ ℕ
end_in bytes = entries_end (slice_index bytes 0) (width_in bytes) first_position (end_limit (slice_index bytes 0)) (2 + width_in bytes) (drop (2 + width_in bytes) bytes)

pub record HasNoFault (bytes : List ℕ) : Type 0 where
  pub long : 2 + width_in bytes ≤ length bytes
  pub whole : AreWhole (slice_index bytes 0) (width_in bytes) (drop (2 + width_in bytes) bytes)
  pub wide : wide_numbers (form_in bytes) ≡ slice_index bytes 1
  pub ended : HasEnd bytes (end_in bytes)

pub has_no_fault : (bytes : List ℕ) → short_fault bytes ≡ None → HasNoFault bytes
unfolding short_fault
has_no_fault bytes e =
    let g0 = guard_none _ _ _ e in
    let g1 = guard_none _ _ _ g0.1 in
    let g2 = guard_none _ _ _ g1.1 in
    let ended = has_end bytes (end_in bytes) g2.1 in
    let whole : AreWhole (slice_index bytes 0) (width_in bytes) (drop (2 + width_in bytes) bytes) = entries_whole _ _ _ _ _ _ _ ended.is_end in
    let there = whole_there (slice_index bytes 0) (width_in bytes) (drop (2 + width_in bytes) bytes) whole in
    record { long = ltb-false _ _ g1.0; whole = whole; wide = eqb-true _ _ (right_if_there _ _ there g2.0); ended = ended }

spelled_by : (bytes : List ℕ) (form : ShortForm) → 2 ≤ length bytes → length form.entries ≡ slice_index bytes 0 → wide_numbers form ≡ slice_index bytes 1
    → drop 2 bytes ≡ big_bytes (number_width (slice_index bytes 1)) form.parent ++ flat_map (entry_spelling (number_width (slice_index bytes 1))) form.entries → bytes ≡ short_spelling form
spelled_by bytes form long count wide rest =
    let e0 : bytes ≡ slice_index bytes 0 ∷ drop 1 bytes = drop_more bytes 0 0 (omega arith) in
    let e1 : drop 1 bytes ≡ slice_index bytes 1 ∷ drop 2 bytes = drop_more bytes 1 0 (omega arith) in
    let spelled : bytes ≡ slice_index bytes 0 ∷ slice_index bytes 1 ∷ (big_bytes (number_width (slice_index bytes 1)) form.parent ++ flat_map (entry_spelling (number_width (slice_index bytes 1))) form.entries) = e0 ∙ ap (λ (t : List ℕ). slice_index bytes 0 ∷ t) (e1 ∙ ap (λ (t : List ℕ). slice_index bytes 1 ∷ t) rest) in
    let with_count : bytes ≡ length form.entries ∷ slice_index bytes 1 ∷ (big_bytes (number_width (slice_index bytes 1)) form.parent ++ flat_map (entry_spelling (number_width (slice_index bytes 1))) form.entries) = spelled ∙ ap (λ (n : ℕ). n ∷ slice_index bytes 1 ∷ (big_bytes (number_width (slice_index bytes 1)) form.parent ++ flat_map (entry_spelling (number_width (slice_index bytes 1))) form.entries)) (sym count) in
    subst (λ (w : ℕ). bytes ≡ length form.entries ∷ w ∷ (big_bytes (number_width w) form.parent ++ flat_map (entry_spelling (number_width w)) form.entries)) (sym wide) with_count

parent_read : (bytes : List ℕ) → IsBytes bytes → 2 + width_in bytes ≤ length bytes → drop 2 bytes ≡ big_bytes (width_in bytes) (number_at (width_in bytes) 2 bytes) ++ drop (2 + width_in bytes) bytes
unfolding number_at
parent_read bytes fits long =
    let width : ℕ = width_in bytes in
    let back = (is_width (slice_index bytes 1)).back (drop 2 bytes) (IsBytes-drop 2 bytes fits) (omega (arith, length-drop 2 bytes)) in
    rw (back, ← drop-drop width 2 bytes) (sym (take-append-drop width (drop 2 bytes)))

parent_small : (bytes : List ℕ) → IsBytes bytes → number_at (width_in bytes) 2 bytes < 2 ^ 64
unfolding number_at
parent_small bytes fits =
    let below = (is_width (slice_index bytes 1)).below in
    let small = big_from-lt 0 (width_in bytes) (drop 2 bytes) (IsBytes-drop 2 bytes fits) in
    omega arith

pub form_read : (bytes : List ℕ) → IsBytes bytes → short_fault bytes ≡ None → ShortHolds bytes (form_in bytes)
unfolding form_in
form_read bytes fits e =
    let h = has_no_fault bytes e in
    let count : ℕ = slice_index bytes 0 in
    let width : ℕ = width_in bytes in
    let low : count < 256 = fits 0 in
    let wide_low : slice_index bytes 1 < 256 = fits 1 in
    let rest : List ℕ = drop (2 + width) bytes in
    let read = entries_read count width first_position (end_limit count) (2 + width) rest h.ended.end (is_width (slice_index bytes 1)) (IsBytes-drop (2 + width) bytes fits) (omega arith) h.ended.is_end in
    let counted = length-entries_in count width rest in
    let long = h.long in
    let nothing : read.after ≡ [] = nil_from_length read.after (omega (arith, read.ends, h.ended.last, length-drop (2 + width) bytes)) in
    let entries_are : rest ≡ flat_map (entry_spelling width) (entries_in count width rest) = read.spelled ∙ ap (λ (t : List ℕ). flat_map (entry_spelling width) (entries_in count width rest) ++ t) nothing ∙ append-nil (flat_map (entry_spelling width) (entries_in count width rest)) in
    let rest_is : drop 2 bytes ≡ big_bytes width (number_at width 2 bytes) ++ flat_map (entry_spelling width) (entries_in count width rest) = parent_read bytes fits long ∙ ap (λ (t : List ℕ). big_bytes width (number_at width 2 bytes) ++ t) entries_are in
    let last = read.last in
    record {
      lawful = record {
        count = omega (arith, counted);
        wide = omega (arith, h.wide);
        parent = parent_small bytes fits;
        fit = All-from_recursion FitsEntry (entries_in count width rest) read.fit;
        apart = read.apart;
        block = omega (arith, counted, last);
      };
      spelled = spelled_by bytes (form_in bytes) (omega arith) counted h.wide rest_is;
    }

-- ---- what spells a form

not_counted : (wide : Bool) (count : ℕ) → count ≡ cond wide 1 0 → count ≡ 0 → wide ≡ false
not_counted true count is e = absurd (omega arith)
not_counted false count is e = refl

none_wide : (entries : List Entry) → count_by (λ entry. leb (2 ^ 32) entry.ino) entries ≡ 0 → AllByRecursion (FitsWidth 4) entries
none_wide [] e = tt
none_wide (entry ∷ entries) e =
    let parts : count_by (λ entry. leb (2 ^ 32) entry.ino) (entry ∷ entries) ≡ cond (leb (2 ^ 32) entry.ino) 1 0 + count_by (λ entry. leb (2 ^ 32) entry.ino) entries = sum_by-cons (λ entry. cond (leb (2 ^ 32) entry.ino) 1 0) entry entries in
    let small : leb (2 ^ 32) entry.ino ≡ false = not_counted (leb (2 ^ 32) entry.ino) _ refl (omega (arith, parts)) in
    (leb-false _ _ small, none_wide entries (omega (arith, parts)))

all_eight : (entries : List Entry) → All FitsEntry entries → AllByRecursion (FitsWidth 8) entries
all_eight [] fit = tt
all_eight (entry ∷ entries) fit = ((All-head FitsEntry entry entries fit).ino, all_eight entries (All-tail FitsEntry entry entries fit))

pub record Widths (width : ℕ) (form : ShortForm) : Type 0 where
  pub parent : form.parent < 256 ^ width
  pub entries : AllByRecursion (FitsWidth width) form.entries

numbers_fit : (form : ShortForm) → IsShortForm form → Widths (number_width (wide_numbers form)) form
numbers_fit form lawful =
    elim (cases_eq (wide_numbers form) 0) [
      | inl none ↦
          let width : 4 ≡ number_width (wide_numbers form) = rw (eq-eqb (wide_numbers form) 0 none) refl in
          let small : leb (2 ^ 32) form.parent ≡ false = not_counted (leb (2 ^ 32) form.parent) _ refl (omega arith) in
          subst (λ (w : ℕ). Widths w form) width (record { parent = leb-false _ _ small; entries = none_wide form.entries (omega arith) })
      | inr some ↦
          let width : 8 ≡ number_width (wide_numbers form) = rw (ne_eqb (wide_numbers form) 0 some) refl in
          subst (λ (w : ℕ). Widths w form) width (record { parent = lawful.parent; entries = all_eight form.entries lawful.fit })
    ]

pub record IsReadAs (bytes : List ℕ) (form : ShortForm) : Type 0 where
  pub sound : short_fault bytes ≡ None
  pub read : form_in bytes ≡ form

spelling_read : (form : ShortForm) → IsShortForm form → IsReadAs (short_spelling form) form
unfolding short_fault form_in number_at
spelling_read form lawful =
    let wide : ℕ = wide_numbers form in
    let width : ℕ = number_width wide in
    let text : List ℕ = short_spelling form in
    let spelled : List ℕ = flat_map (entry_spelling width) form.entries in
    let fits = numbers_fit form lawful in
    let count : ℕ = length form.entries in
    let behind : drop (2 + width) text ≡ spelled = sym (drop-drop width 2 text) ∙ drop_at (big_bytes width form.parent) spelled width (length-bytes_high_first width form.parent) in
    let parent : number_at width 2 text ≡ form.parent = big_number-reads_back width form.parent spelled fits.parent in
    let block = lawful.block in
    let again = entries_again width first_position (end_limit count) (2 + width) form.entries [] (omega arith) fits.entries lawful.apart (omega arith) in
    let ends : entries_end count width first_position (end_limit count) (2 + width) spelled ≡ Ok (2 + width + length spelled) = ap (entries_end count width first_position (end_limit count) (2 + width)) (sym (append-nil spelled)) ∙ again.ends in
    let read : entries_in count width spelled ≡ form.entries = ap (entries_in count width) (sym (append-nil spelled)) ∙ again.read in
    let form_is : form_in text ≡ form = rw (parent, behind, read) refl in
    let long : length text ≡ 2 + width + length spelled = omega (arith, length-append (big_bytes width form.parent) spelled, length-bytes_high_first width form.parent) in
    let a : ltb (length text) 2 ≡ false = le-ltb _ _ (omega arith) in
    let b : ltb (length text) (2 + width) ≡ false = le-ltb _ _ (omega arith) in
    let c : eqb (wide_numbers (form_in text)) wide ≡ true = eq-eqb _ _ (ap wide_numbers form_is) in
    let d : ltb (2 + width + length spelled) (length text) ≡ false = le-ltb _ _ (omega arith) in
    let there : entries_there count width spelled ≡ true = whole_there count width spelled (entries_whole _ _ _ _ _ _ _ ends) in
    record {
      sound = rw (a, b, c, behind, there, ends, d) refl;
      read = form_is;
    }

pub holds_read : (bytes : List ℕ) (form : ShortForm) → ShortHolds bytes form → IsReadAs bytes form
holds_read bytes form holds = subst (λ (t : List ℕ). IsReadAs t form) (sym holds.spelled) (spelling_read form holds.lawful)

-- ---- what stands in bytes that hold a form

pub stands_whole : (bytes : List ℕ) (form : ShortForm) (width bytes_of_width : ℕ) → ShortHolds bytes form → width ≡ width_in bytes → bytes_of_width ≡ width
    → AreWhole (slice_index bytes 0) width (take (length bytes - (2 + bytes_of_width)) (drop (2 + bytes_of_width) bytes))
stands_whole bytes form width bytes_of_width holds is same =
    let h = has_no_fault bytes (holds_read bytes form holds).sound in
    let here : AreWhole (slice_index bytes 0) width (drop (2 + width) bytes) = subst (λ (w : ℕ). AreWhole (slice_index bytes 0) w (drop (2 + w) bytes)) (sym is) h.whole in
    let part : take (length bytes - (2 + bytes_of_width)) (drop (2 + bytes_of_width) bytes) ≡ drop (2 + width) bytes = take_rest bytes (2 + bytes_of_width) ∙ ap (λ (w : ℕ). drop (2 + w) bytes) same in
    subst (λ (t : List ℕ). AreWhole (slice_index bytes 0) width t) (sym part) here

pub entries_are : (bytes : List ℕ) (form : ShortForm) (width bytes_of_width : ℕ) (entries : List Entry) → entries ≡ entries_in (slice_index bytes 0) width (take (length bytes - (2 + bytes_of_width)) (drop (2 + bytes_of_width) bytes))
    → width ≡ width_in bytes → bytes_of_width ≡ width → form_in bytes ≡ form → entries ≡ form.entries
unfolding form_in
entries_are bytes form width bytes_of_width entries read is same form_is =
    let part : take (length bytes - (2 + bytes_of_width)) (drop (2 + bytes_of_width) bytes) ≡ drop (2 + width) bytes = take_rest bytes (2 + bytes_of_width) ∙ ap (λ (w : ℕ). drop (2 + w) bytes) same in
    read
    ∙ ap (entries_in (slice_index bytes 0) width) part
    ∙ ap (λ (w : ℕ). entries_in (slice_index bytes 0) w (drop (2 + w) bytes)) is
    ∙ ap (λ (f : ShortForm). f.entries) form_is

pub no_form_with_fault : (bytes : List ℕ) (at : ℕ) → short_fault bytes ≡ Some at → (form : ShortForm) → ShortHolds bytes form → ⊥
no_form_with_fault bytes at wrong form holds =
    let sound = (holds_read bytes form holds).sound in
    absurd cc
