-- Regions that pass the checks stand there, and those that stand there pass.
use Rattle.std.proofs.Common.{◌≡◌, ℕ, zero, suc, ◌+◌, ◌-◌, ◌*◌, ◌%◌, ◌<◌, ◌≤◌, Bool, true, false, cond, ltb, leb, eqb, List, [], ◌∷◌, length, slice_index, drop, Option, Some, None, refl, sym, ◌∙◌, arith, inl, inr}
use Rattle.std.specs.Prelude.{is_none, unwrap_or, slice_range}
use Rattle.std.specs.List.{AllByRecursion}
use Rattle.std.proofs.lemmas.Bool.{ltb-false, le-ltb, le-leb, lt-leb, eqb-true, eq-eqb, ne_eqb, not-false, true≢false, cases_lt}
use Rattle.std.proofs.lemmas.List.{length-take-le, length-drop}
use Rattle.xn_bytes.specs.declared.kind.Kind.{Kind}
use Rattle.xn_bytes.specs.declared.kind.Kind.TheVariants.{Reg}
use Rattle.xn_bytes.specs.Kinds.{kind_of_number}
use Rattle.xn_bytes.specs.Numbers.{number_at}
use Rattle.xn_bytes.specs.Entries.{Entry, data_entry_length}
use Rattle.xn_bytes.specs.DataBlock.{Gap, Region, EntryStands, GapStands, AreRegions, free_tag, region_size, entry_at, region_at, region_fault, regions_fault, regions_at, first_fault, gaps_among}
use Rattle.xn_bytes.specs.DataBlock.Region.{Used, Free}

-- ---- one region

pub guard_none : (b : Bool) (x : ℕ) (next : Option ℕ) → cond b (Some x) next ≡ None → (b ≡ false) × (next ≡ None)
guard_none true x next e = absurd cc
guard_none false x next e = (refl, e)

some_from : (kind : Option Kind) → is_none kind ≡ false → kind ≡ Some (unwrap_or kind Reg)
some_from (Some kind) e = refl
some_from None e = absurd cc

none_from : (kind : Option Kind) (k : Kind) → kind ≡ Some k → is_none kind ≡ false
none_from kind k e = rw e refl

-- an entry takes a multiple of 8 bytes, at least 16
pub record EntrySize (n : ℕ) : Type 0 where
  pub least : 16 ≤ data_entry_length n
  pub step : data_entry_length n % 8 ≡ 0
  pub room : 12 + n ≤ data_entry_length n

pub entry_size : (n : ℕ) → EntrySize n
entry_size n = record { least = omega arith; step = omega arith; room = omega arith }

-- the gap that stands at a place
abbrev pub gap_at : ℕ → List ℕ → Gap
gap_at at bytes = record { place = at; size = number_at 2 (at + 2) bytes }

free_passed : (behind : Bool) (at end : ℕ) (bytes : List ℕ) → eqb (number_at 2 at bytes) free_tag ≡ true → region_fault behind at end bytes ≡ None → (behind ≡ false) × GapStands end bytes (gap_at at bytes)
unfolding region_fault
free_passed behind at end bytes tag e =
    let size : ℕ = number_at 2 (at + 2) bytes in
    let f = rw tag at e in
    let g0 = guard_none _ _ _ f in
    let g1 = guard_none _ _ _ g0.1 in
    let g2 = guard_none _ _ _ g1.1 in
    let g3 = guard_none _ _ _ g2.1 in
    let g4 = guard_none _ _ _ g3.1 in (
      g0.0,
      record {
        tag = eqb-true _ _ tag;
        size = refl;
        some = ltb-false _ _ g1.0;
        step = eqb-true _ _ (not-false _ g2.0);
        within = ltb-false _ _ g3.0;
        own_place = eqb-true _ _ (not-false _ g4.0);
      },
    )

name_whole : (at n end : ℕ) (bytes : List ℕ) → end ≤ length bytes → at + data_entry_length n ≤ end → length (slice_range bytes (at + 9) (at + 9 + n)) ≡ n
name_whole at n end bytes whole within =
    let room = (entry_size n).room in
    let cut : at + 9 + n - (at + 9) ≡ n = omega arith in
    rw cut (length-take-le n (drop (at + 9) bytes) (omega (arith, length-drop (at + 9) bytes)))

pub used_passed : (behind : Bool) (at end : ℕ) (bytes : List ℕ) → end ≤ length bytes → eqb (number_at 2 at bytes) free_tag ≡ false → region_fault behind at end bytes ≡ None → EntryStands end bytes (entry_at at bytes)
unfolding region_fault
used_passed behind at end bytes whole tag e =
    let n : ℕ = slice_index bytes (at + 8) in
    let f = rw tag at e in
    let g0 = guard_none _ _ _ f in
    let g1 = guard_none _ _ _ g0.1 in
    let g2 = guard_none _ _ _ g1.1 in
    let g3 = guard_none _ _ _ g2.1 in
    let within : at + data_entry_length n ≤ end = ltb-false _ _ g1.0 in
    let name_length : length (slice_range bytes (at + 9) (at + 9 + n)) ≡ n = name_whole at n end bytes whole within in
    record {
      used = λ same. true≢false (sym (eq-eqb _ _ same) ∙ tag);
      inode = refl;
      name_length = name_length;
      name = rw name_length refl;
      kind = rw name_length (some_from _ g2.0);
      within = rw name_length within;
      own_place = rw name_length (eqb-true _ _ (not-false _ g3.0));
    }

-- what is known of a region that passes
pub record Passed (behind : Bool) (at end : ℕ) (bytes : List ℕ) : Type 0 where
  pub some : 8 ≤ region_size at bytes
  pub step : region_size at bytes % 8 ≡ 0
  pub within : at + region_size at bytes ≤ end
  pub stands : (regions : List Region) → AreRegions (eqb (number_at 2 at bytes) free_tag) (at + region_size at bytes) end bytes regions → AreRegions behind at end bytes (region_at at bytes ∷ regions)

passed_by : (tag : Bool) (behind : Bool) (at end : ℕ) (bytes : List ℕ) → end ≤ length bytes → eqb (number_at 2 at bytes) free_tag ≡ tag → region_fault behind at end bytes ≡ None → Passed behind at end bytes
passed_by true behind at end bytes whole tag e =
    let both = free_passed behind at end bytes tag e in
    let gap = both.1 in
    let size : region_size at bytes ≡ number_at 2 (at + 2) bytes = rw tag refl in
    record {
      some = rw size gap.some;
      step = rw size gap.step;
      within = rw size gap.within;
      stands = λ regions others. rw tag (both.0, refl, gap, rw tag at others);
    }
passed_by false behind at end bytes whole tag e =
    let entry = used_passed behind at end bytes whole tag e in
    let n : ℕ = slice_index bytes (at + 8) in
    let size : region_size at bytes ≡ data_entry_length n = rw tag refl in
    let known = entry_size n in
    let same : length (slice_range bytes (at + 9) (at + 9 + n)) ≡ n = entry.name_length in
    record {
      some = rw size (omega (arith, known.least));
      step = rw size known.step;
      within = rw (size, ← same) entry.within;
      stands = λ regions others. rw tag (refl, entry, rw same (rw tag at others));
    }

pub region_passed : (behind : Bool) (at end : ℕ) (bytes : List ℕ) → end ≤ length bytes → region_fault behind at end bytes ≡ None → Passed behind at end bytes
region_passed behind at end bytes whole e = passed_by (eqb (number_at 2 at bytes) free_tag) behind at end bytes whole refl e

-- ---- regions side by side

pub first_none : (first next : Option ℕ) → first_fault first next ≡ None → (first ≡ None) × (next ≡ None)
first_none None next e = (refl, e)
first_none (Some fault) next e = absurd cc

-- regions that pass stand there
pub regions_passed : (most : ℕ) (behind : Bool) (at end : ℕ) (bytes : List ℕ) → end ≤ length bytes → at ≤ end → end ≤ at + 8 * most → regions_fault most behind at end bytes ≡ None → AreRegions behind at end bytes (regions_at most at end bytes)
unfolding regions_fault regions_at
regions_passed zero behind at end bytes whole before enough e = omega arith
regions_passed (suc most) behind at end bytes whole before enough e =
    elim (cases_lt at end) [
      | inl more ↦
          let on : leb end at ≡ false = lt-leb end at more in
          let both = first_none _ _ (rw on at e) in
          let here = region_passed behind at end bytes whole both.0 in
          let others = regions_passed most (eqb (number_at 2 at bytes) free_tag) (at + region_size at bytes) end bytes whole here.within (omega (arith, here.some)) both.1 in
          rw on (here.stands (regions_at most (at + region_size at bytes) end bytes) others)
      | inr past ↦
          let done : leb end at ≡ true = le-leb end at past in
          rw done (omega arith)
    ]

-- ---- what stands there passes

-- a region that stands at a place passes, and is what is read there
pub record Again (behind : Bool) (at end : ℕ) (bytes : List ℕ) (region : Region) (size : ℕ) (free : Bool) : Type 0 where
  pub fault : region_fault behind at end bytes ≡ None
  pub read : region_at at bytes ≡ region
  pub size_is : region_size at bytes ≡ size
  pub tag : eqb (number_at 2 at bytes) free_tag ≡ free

free_again : (at end : ℕ) (bytes : List ℕ) (gap : Gap) → gap.place ≡ at → GapStands end bytes gap → Again false at end bytes (Free gap) gap.size true
unfolding region_fault
free_again at end bytes gap place stands =
    let tag : eqb (number_at 2 at bytes) free_tag ≡ true = eq-eqb _ _ (rw place at stands.tag) in
    let size : number_at 2 (at + 2) bytes ≡ gap.size = sym (rw place at stands.size) in
    let a : ltb gap.size 8 ≡ false = le-ltb _ _ stands.some in
    let b : eqb (gap.size % 8) 0 ≡ true = eq-eqb _ _ stands.step in
    let c : ltb end (at + gap.size) ≡ false = le-ltb _ _ (rw place at stands.within) in
    let d : eqb (number_at 2 (at + gap.size - 2) bytes) at ≡ true = eq-eqb _ _ (rw place at stands.own_place) in
    record {
      fault = rw (tag, size, a, b, c, d) refl;
      read = rw (tag, size, ← place) refl;
      size_is = rw (tag, size) refl;
      tag = tag;
    }

pub used_again : (behind : Bool) (at end : ℕ) (bytes : List ℕ) (entry : Entry) → entry.position ≡ at → EntryStands end bytes entry → Again behind at end bytes (Used entry) (data_entry_length (length entry.name)) false
unfolding region_fault
used_again behind at end bytes entry place stands =
    let n : ℕ = length entry.name in
    let tag : eqb (number_at 2 at bytes) free_tag ≡ false = ne_eqb _ _ (rw place at stands.used) in
    let size : slice_index bytes (at + 8) ≡ n = sym (rw place at stands.name_length) in
    let kind : kind_of_number (slice_index bytes (at + 9 + n)) ≡ Some entry.kind = rw place at stands.kind in
    let name : slice_range bytes (at + 9) (at + 9 + n) ≡ entry.name = sym (rw place at stands.name) in
    let ino : number_at 8 at bytes ≡ entry.ino = sym (rw place at stands.inode) in
    let within : at + data_entry_length n ≤ end = rw place at stands.within in
    let least = (entry_size n).least in
    let a : ltb end (at + 16) ≡ false = le-ltb _ _ (omega arith) in
    let b : ltb end (at + data_entry_length n) ≡ false = le-ltb _ _ within in
    let c : eqb (number_at 2 (at + data_entry_length n - 2) bytes) at ≡ true = eq-eqb _ _ (rw place at stands.own_place) in
    record {
      fault = rw (tag, size, a, b, kind, c) refl;
      read = rw (tag, size, name, ino, kind, ← place) refl;
      size_is = rw (tag, size) refl;
      tag = tag;
    }

pub record AllAgain (most : ℕ) (behind : Bool) (at end : ℕ) (bytes : List ℕ) (regions : List Region) : Type 0 where
  pub fault : regions_fault most behind at end bytes ≡ None
  pub read : regions_at most at end bytes ≡ regions
  pub before : at ≤ end

one_more : (most : ℕ) (behind free : Bool) (at end size : ℕ) (bytes : List ℕ) (region : Region) (regions : List Region) → at < end → Again behind at end bytes region size free → AllAgain most free (at + size) end bytes regions → AllAgain (suc most) behind at end bytes (region ∷ regions)
unfolding regions_fault regions_at
one_more most behind free at end size bytes region regions more here others =
    let on : leb end at ≡ false = lt-leb end at more in
    record {
      fault = rw (on, here.fault, here.size_is, here.tag) others.fault;
      read = rw (on, here.size_is, here.read, others.read) refl;
      before = omega arith;
    }

pub regions_again : (regions : List Region) (most : ℕ) (behind : Bool) (at end : ℕ) (bytes : List ℕ) → end ≤ at + 8 * most → AreRegions behind at end bytes regions → AllAgain most behind at end bytes regions
unfolding regions_fault regions_at
regions_again [] zero behind at end bytes enough stand = record { fault = refl; read = refl; before = omega arith }
regions_again [] (suc most) behind at end bytes enough stand =
    let done : leb end at ≡ true = le-leb end at (omega arith) in
    record { fault = rw done refl; read = rw done refl; before = omega arith }
regions_again (Used entry ∷ regions) zero behind at end bytes enough stand =
    let place : entry.position ≡ at = stand.0 in
    absurd (omega (arith, stand.1.within, (entry_size (length entry.name)).least))
regions_again (Used entry ∷ regions) (suc most) behind at end bytes enough stand =
    let place : entry.position ≡ at = stand.0 in
    let size = entry_size (length entry.name) in
    let more : at < end = omega (arith, stand.1.within, size.least) in
    one_more most behind false at end (data_entry_length (length entry.name)) bytes (Used entry) regions more (used_again behind at end bytes entry place stand.1)
    (regions_again regions most false (at + data_entry_length (length entry.name)) end bytes (omega (arith, size.least)) stand.2)
regions_again (Free gap ∷ regions) zero behind at end bytes enough stand =
    let place : gap.place ≡ at = stand.1 in
    absurd (omega (arith, stand.2.within, stand.2.some))
regions_again (Free gap ∷ regions) (suc most) behind at end bytes enough stand =
    let place : gap.place ≡ at = stand.1 in
    let gap_stands = stand.2 in
    let more : at < end = omega (arith, gap_stands.within, gap_stands.some) in
    let here : Again behind at end bytes (Free gap) gap.size true = rw stand.0 (free_again at end bytes gap place gap_stands) in
    one_more most behind true at end gap.size bytes (Free gap) regions more here (regions_again regions most true (at + gap.size) end bytes (omega (arith, gap_stands.some)) stand.3)

-- the free regions have at least 8 bytes
pub gaps_some : (behind : Bool) (at end : ℕ) (bytes : List ℕ) (regions : List Region) → AreRegions behind at end bytes regions → AllByRecursion (λ gap. 8 ≤ gap.size) (gaps_among regions)
gaps_some behind at end bytes [] stand = tt
gaps_some behind at end bytes (Used entry ∷ regions) stand = gaps_some false (at + data_entry_length (length entry.name)) end bytes regions stand.2
gaps_some behind at end bytes (Free gap ∷ regions) stand = (stand.2.some, gaps_some true (at + gap.size) end bytes regions stand.3)
