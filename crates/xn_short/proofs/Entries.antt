-- The entries of a form, one after the other.
use Rattle.std.proofs.Common.{◌≡◌, ◌≢◌, ℕ, zero, suc, ◌+◌, ◌-◌, ◌^◌, ◌%◌, ◌<◌, ◌≤◌, List, [], ◌∷◌, ◌++◌, length, slice_index, drop, Option, Some, None, Result, Ok, refl, sym, ap, subst, ◌∙◌, append_assoc, arith}
use Rattle.std.specs.Prelude.{slice_range}
use Rattle.std.specs.List.{flat_map, AllByRecursion}
use Rattle.std.proofs.lemmas.List.{length-append, length-take-le, length-drop, get_or_default}
use Rattle.std.proofs.lemmas.List.Concat.{flat_map-cons}
use Rattle.byteorder.specs.Numbers.{big_from-lt}
use Rattle.xn_bytes.specs.Numbers.{number_at}
use Rattle.xn_bytes.specs.Entries.{Entry, data_entry_length}
use Rattle.xn_bytes.specs.ShortDirectory.{entry_spelling, entry_in, entries_in, entry_size, entries_end, unless_fault, end_of, AreApart, last_end, FitsEntry}
use Rattle.xn_short.specs.Whole.{IsWhole, AreWhole}
use Rattle.xn_short.proofs.Numbers.{IsBytes, IsBytes-drop, IsBytes-take, IsWidth}
use Rattle.xn_short.proofs.OneEntry.{entry_spelled, StandsIn, entry_stands, FitsHere, entry_passed, entry_passes}

pub length-entries_in : (count width : ℕ) (rest : List ℕ) → length (entries_in count width rest) ≡ count
unfolding entries_in
length-entries_in zero width rest = refl
length-entries_in (suc count) width rest = ap suc (length-entries_in count width (drop (entry_size width rest) rest))

-- the entry at the front, and those behind it
pub front_first : (now : List Entry) (left width : ℕ) (rest behind : List ℕ) (entry : Entry) → entries_in left width rest ≡ now → left ≢ 0 → entry ≡ entry_in width rest → behind ≡ drop (entry_size width rest) rest → now ≡ entry ∷ entries_in (left - 1) width behind
unfolding entries_in
front_first now left width rest behind entry all some entry_is behind_is =
    let k : left ≡ suc (left - 1) = omega arith in
    let split : entries_in left width rest ≡ entry_in width rest ∷ entries_in (left - 1) width (drop (entry_size width rest) rest) = ap (λ (n : ℕ). entries_in n width rest) k in
    sym all ∙ split ∙ rw (entry_is, behind_is) refl

-- ---- entries that pass

no_fault : (fault : Option ℕ) (next : Result ℕ ℕ) (end : ℕ) → unless_fault fault next ≡ Ok end → (fault ≡ None) × (next ≡ Ok end)
no_fault None next end e = (refl, e)
no_fault (Some at) next end e = absurd cc

pub entries_whole : (count width least limit at : ℕ) (rest : List ℕ) (end : ℕ) → entries_end count width least limit at rest ≡ Ok end → AreWhole count width rest
unfolding entries_end
entries_whole zero width least limit at rest end e = tt
entries_whole (suc count) width least limit at rest end e =
    let both = no_fault _ _ end e in (
      (entry_passed width least limit at rest both.0).whole,
      entries_whole count width (number_at 2 1 rest + data_entry_length (slice_index rest 0)) limit (at + entry_size width rest) (drop (entry_size width rest) rest) end both.1,
    )

-- what is known of entries that were read to the end
pub record AreRead (width least limit at : ℕ) (rest : List ℕ) (end : ℕ) (entries : List Entry) : Type 0 where
  pub after : List ℕ
  pub spelled : rest ≡ flat_map (entry_spelling width) entries ++ after
  pub ends : end + length after ≡ at + length rest
  pub fit : AllByRecursion FitsEntry entries
  pub apart : AreApart least entries
  pub last : last_end least entries ≤ limit

entry_fits : (width : ℕ) (rest : List ℕ) → IsWidth width → IsBytes rest → IsWhole width rest → FitsEntry (entry_in width rest)
unfolding number_at
entry_fits width rest wide fits whole =
    let n : ℕ = slice_index rest 0 in
    let byte : n < 256 = fits 0 in
    let cut : 3 + n - 3 ≡ n = omega arith in
    let long : 4 + n + width ≤ length rest = whole.within in
    let name_length : length (slice_range rest 3 (3 + n)) ≡ n = rw cut (length-take-le n (drop 3 rest) (omega (arith, length-drop 3 rest))) in
    let name_bytes : IsBytes (slice_range rest 3 (3 + n)) = IsBytes-take (3 + n - 3) (drop 3 rest) (IsBytes-drop 3 rest fits) in
    let ino = big_from-lt 0 width (drop (4 + n) rest) (IsBytes-drop (4 + n) rest fits) in
    let below = wide.below in
    record {
      name = omega (arith, name_length);
      bytes = λ k d lt. rw (get_or_default (slice_range rest 3 (3 + n)) k d 0 lt) (name_bytes k);
      ino = omega arith;
    }

entry_end : (width : ℕ) (rest : List ℕ) → IsWhole width rest → end_of (entry_in width rest) ≡ number_at 2 1 rest + data_entry_length (slice_index rest 0)
entry_end width rest whole =
    let n : ℕ = slice_index rest 0 in
    let cut : 3 + n - 3 ≡ n = omega arith in
    let long : 4 + n + width ≤ length rest = whole.within in
    let name_length : length (slice_range rest 3 (3 + n)) ≡ n = rw cut (length-take-le n (drop 3 rest) (omega (arith, length-drop 3 rest))) in
    rw name_length refl

one_more : (width least limit at : ℕ) (rest : List ℕ) (end : ℕ) (entry : Entry) (entries : List Entry) → FitsHere width least limit rest → FitsEntry entry → entry.position ≡ number_at 2 1 rest
    → end_of entry ≡ number_at 2 1 rest + data_entry_length (slice_index rest 0) → rest ≡ entry_spelling width entry ++ drop (entry_size width rest) rest
    → AreRead width (number_at 2 1 rest + data_entry_length (slice_index rest 0)) limit (at + entry_size width rest) (drop (entry_size width rest) rest) end entries
    → AreRead width least limit at rest end (entry ∷ entries)
one_more width least limit at rest end entry entries here fits position ending first others =
    let size : ℕ = entry_size width rest in
    let within = here.whole.within in
    record {
      after = others.after;
      spelled =
          first
          ∙ ap (λ (t : List ℕ). entry_spelling width entry ++ t) others.spelled
          ∙ sym (append_assoc (entry_spelling width entry) (flat_map (entry_spelling width) entries) others.after)
          ∙ ap (λ (t : List ℕ). t ++ others.after) (sym (flat_map-cons (entry_spelling width) entry entries));
      ends = omega (arith, others.ends, length-drop size rest);
      fit = (fits, others.fit);
      apart = (rw position here.low, rw position here.step, subst (λ (k : ℕ). AreApart k entries) (sym ending) others.apart);
      last = subst (λ (k : ℕ). last_end k entries ≤ limit) (sym ending) others.last;
    }

pub entries_read : (count width least limit at : ℕ) (rest : List ℕ) (end : ℕ) → IsWidth width → IsBytes rest → least ≤ limit → entries_end count width least limit at rest ≡ Ok end → AreRead width least limit at rest end (entries_in count width rest)
unfolding entries_end entries_in
entries_read zero width least limit at rest end wide fits room e =
    let here : at ≡ end = cc in
    record { after = rest; spelled = refl; ends = omega arith; fit = tt; apart = tt; last = room }
entries_read (suc count) width least limit at rest end wide fits room e =
    let both = no_fault _ _ end e in
    let here = entry_passed width least limit at rest both.0 in
    let size : ℕ = entry_size width rest in
    let others = entries_read count width (number_at 2 1 rest + data_entry_length (slice_index rest 0)) limit (at + size) (drop size rest) end wide (IsBytes-drop size rest fits) here.high both.1 in
    one_more width least limit at rest end (entry_in width rest) (entries_in count width (drop size rest)) here (entry_fits width rest wide fits here.whole) refl (entry_end width rest here.whole) (entry_spelled width rest wide fits here.whole) others

-- ---- entries that are spelled

pub least_last : (least : ℕ) (entries : List Entry) → AreApart least entries → least ≤ last_end least entries
least_last least [] apart = omega arith
least_last least (entry ∷ entries) apart = let later = least_last (end_of entry) entries apart.2 in omega (arith, later, apart.0)

-- numbers that have their width
abbrev pub FitsWidth : ℕ → Entry → Type 0
FitsWidth width entry = entry.ino < 256 ^ width

pub record Again (width least limit at : ℕ) (entries : List Entry) (rest : List ℕ) : Type 0 where
  pub ends : entries_end (length entries) width least limit at (flat_map (entry_spelling width) entries ++ rest) ≡ Ok (at + length (flat_map (entry_spelling width) entries))
  pub read : entries_in (length entries) width (flat_map (entry_spelling width) entries ++ rest) ≡ entries

here_fits : (width least limit : ℕ) (entry : Entry) (rest text : List ℕ) → StandsIn width entry rest text → least ≤ entry.position → entry.position % 8 ≡ 0 → end_of entry ≤ limit → FitsHere width least limit text
here_fits width least limit entry rest text stands low step high =
    record {
      low = rw stands.position low;
      step = rw stands.position step;
      high = rw (stands.position, stands.first) high;
      whole = record {
        within = omega (arith, stands.long);
        kind = rw stands.kind refl;
      };
    }

pub entries_again : (width least limit at : ℕ) (entries : List Entry) (rest : List ℕ) → limit < 2 ^ 16 → AllByRecursion (FitsWidth width) entries → AreApart least entries → last_end least entries ≤ limit → Again width least limit at entries rest
unfolding entries_end entries_in
entries_again width least limit at [] rest small fit apart last = record { ends = ap Ok (omega arith); read = refl }
entries_again width least limit at (entry ∷ entries) rest small fit apart last =
    let tail : List ℕ = flat_map (entry_spelling width) entries ++ rest in
    let text : List ℕ = entry_spelling width entry ++ tail in
    let high : end_of entry ≤ limit = omega (arith, least_last (end_of entry) entries apart.2) in
    let stands = entry_stands width entry tail (omega arith) fit.0 in
    let fits = here_fits width least limit entry tail text stands apart.0 apart.1 high in
    let passes = entry_passes width least limit at text fits in
    let others = entries_again width (end_of entry) limit (at + entry_size width text) entries rest small fit.1 apart.2 last in
    let regrouped : flat_map (entry_spelling width) (entry ∷ entries) ++ rest ≡ text = ap (λ (t : List ℕ). t ++ rest) (flat_map-cons (entry_spelling width) entry entries) ∙ append_assoc (entry_spelling width entry) (flat_map (entry_spelling width) entries) rest in
    let size : at + entry_size width text + length (flat_map (entry_spelling width) entries) ≡ at + length (flat_map (entry_spelling width) (entry ∷ entries)) = omega (arith, stands.long, ap length (flat_map-cons (entry_spelling width) entry entries), length-append (entry_spelling width entry) tail, length-append (entry_spelling width entry) (flat_map (entry_spelling width) entries)) in
    record {
      ends =
          ap (entries_end (suc (length entries)) width least limit at) regrouped
          ∙ rw (passes, stands.behind, stands.position, stands.first) (others.ends ∙ ap Ok size);
      read =
          ap (entries_in (suc (length entries)) width) regrouped
          ∙ rw (stands.read, stands.behind, others.read) refl;
    }
