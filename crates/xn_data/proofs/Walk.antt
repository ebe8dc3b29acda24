-- Going over the regions of a block, one after the other, as a loop does.
use Rattle.std.proofs.Common.{◌≡◌, ℕ, zero, suc, ◌+◌, ◌*◌, ◌%◌, ◌<◌, ◌≤◌, Bool, true, false, cond, leb, eqb, List, [], ◌∷◌, length, Option, Some, None, refl, sym, ap, ◌∙◌, arith}
use Rattle.std.proofs.lemmas.Bool.{le-leb, lt-leb}
use Rattle.xn_bytes.specs.Numbers.{number_at}
use Rattle.xn_bytes.specs.DataBlock.{Region, free_tag, region_size, region_at, region_fault, regions_fault, regions_at, first_fault, gaps_among}
use Rattle.xn_data.specs.declared.pairs.BestPairs.{BestPairs}
use Rattle.xn_data.specs.Weighing.{pairs_weighed, verdict}
use Rattle.xn_data.proofs.Regions.{gap_at, region_passed}
use Rattle.xn_data.proofs.Weighing.{pairs_weighed-append}

-- the first fault of so many regions from a place on, and then of the pairs
abbrev pub told : ℕ → Bool → ℕ → ℕ → BestPairs → List ℕ → Option ℕ
told most behind at end pairs bytes = first_fault (regions_fault most behind at end bytes) (verdict (pairs_weighed pairs (gaps_among (regions_at most at end bytes))))

-- the pairs after the region at a place
abbrev pub pairs_past : Bool → ℕ → BestPairs → List ℕ → BestPairs
pairs_past free at pairs bytes = cond free (pairs_weighed pairs (gap_at at bytes ∷ [])) pairs

past_region : (free : Bool) (at : ℕ) (pairs : BestPairs) (bytes : List ℕ) (regions : List Region) → eqb (number_at 2 at bytes) free_tag ≡ free → pairs_weighed pairs (gaps_among (region_at at bytes ∷ regions)) ≡ pairs_weighed (pairs_past free at pairs bytes) (gaps_among regions)
past_region true at pairs bytes regions tag = rw tag (pairs_weighed-append pairs (gap_at at bytes ∷ []) (gaps_among regions))
past_region false at pairs bytes regions tag = rw tag refl

fault_step : (most : ℕ) (behind free : Bool) (at end : ℕ) (bytes : List ℕ) → at < end → region_fault behind at end bytes ≡ None → eqb (number_at 2 at bytes) free_tag ≡ free → regions_fault (suc most) behind at end bytes ≡ regions_fault most free (at + region_size at bytes) end bytes
unfolding regions_fault
fault_step most behind free at end bytes more sound tag =
    let on : leb end at ≡ false = lt-leb end at more in
    rw (on, sound) (ap (λ (f : Bool). regions_fault most f (at + region_size at bytes) end bytes) tag)

pub list_step : (most at end : ℕ) (bytes : List ℕ) → at < end → regions_at (suc most) at end bytes ≡ region_at at bytes ∷ regions_at most (at + region_size at bytes) end bytes
unfolding regions_at
list_step most at end bytes more = let on : leb end at ≡ false = lt-leb end at more in rw on refl

told_step : (most : ℕ) (behind free : Bool) (at end : ℕ) (pairs : BestPairs) (bytes : List ℕ) → at < end → region_fault behind at end bytes ≡ None → eqb (number_at 2 at bytes) free_tag ≡ free
    → told (suc most) behind at end pairs bytes ≡ told most free (at + region_size at bytes) end (pairs_past free at pairs bytes) bytes
told_step most behind free at end pairs bytes more sound tag =
    let size : ℕ = region_size at bytes in
    ap (λ (f : Option ℕ). first_fault f (verdict (pairs_weighed pairs (gaps_among (regions_at (suc most) at end bytes))))) (fault_step most behind free at end bytes more sound tag)
    ∙ ap (λ (regions : List Region). first_fault (regions_fault most free (at + size) end bytes) (verdict (pairs_weighed pairs (gaps_among regions)))) (list_step most at end bytes more)
    ∙ ap (λ (past : BestPairs). first_fault (regions_fault most free (at + size) end bytes) (verdict past)) (past_region free at pairs bytes (regions_at most (at + size) end bytes) tag)

told_fault : (most : ℕ) (behind : Bool) (at end fault : ℕ) (pairs : BestPairs) (bytes : List ℕ) → at < end → region_fault behind at end bytes ≡ Some fault → told (suc most) behind at end pairs bytes ≡ Some fault
unfolding regions_fault
told_fault most behind at end fault pairs bytes more wrong = let on : leb end at ≡ false = lt-leb end at more in rw (on, wrong) refl

fault_end : (most : ℕ) (behind : Bool) (at end : ℕ) (bytes : List ℕ) → end ≤ at → regions_fault most behind at end bytes ≡ None
unfolding regions_fault
fault_end zero behind at end bytes past = refl
fault_end (suc most) behind at end bytes past = let done : leb end at ≡ true = le-leb end at past in rw done refl

pub list_end : (most at end : ℕ) (bytes : List ℕ) → end ≤ at → regions_at most at end bytes ≡ []
unfolding regions_at
list_end zero at end bytes past = refl
list_end (suc most) at end bytes past = let done : leb end at ≡ true = le-leb end at past in rw done refl

told_end : (most : ℕ) (behind : Bool) (at end : ℕ) (pairs : BestPairs) (bytes : List ℕ) → end ≤ at → told most behind at end pairs bytes ≡ verdict pairs
told_end most behind at end pairs bytes past =
    ap (λ (f : Option ℕ). first_fault f (verdict (pairs_weighed pairs (gaps_among (regions_at most at end bytes))))) (fault_end most behind at end bytes past)
    ∙ ap (λ (regions : List Region). verdict (pairs_weighed pairs (gaps_among regions))) (list_end most at end bytes past)

-- what the loop keeps
pub record Goes (behind : Bool) (at end : ℕ) (pairs : BestPairs) (bytes : List ℕ) (total : Option ℕ) : Type 0 where
  pub within : at ≤ end
  pub step : at % 8 ≡ 0
  pub most : ℕ
  pub enough : end ≤ at + 8 * most
  pub left : told most behind at end pairs bytes ≡ total

goes_by : (most : ℕ) (behind free : Bool) (at end size : ℕ) (pairs past : BestPairs) (bytes : List ℕ) (total : Option ℕ) → at % 8 ≡ 0 → end ≤ at + 8 * most → told most behind at end pairs bytes ≡ total → at < end → region_fault behind at end bytes ≡ None
    → 8 ≤ region_size at bytes → region_size at bytes % 8 ≡ 0 → at + region_size at bytes ≤ end → size ≡ region_size at bytes → free ≡ eqb (number_at 2 at bytes) free_tag → past ≡ pairs_past free at pairs bytes → Goes free (at + size) end past bytes total
goes_by zero behind free at end size pairs past bytes total step enough left more sound some even within size_is free_is past_is = absurd (omega arith)
goes_by (suc most) behind free at end size pairs past bytes total step enough left more sound some even within size_is free_is past_is =
    record {
      within = omega arith;
      step = omega arith;
      most = most;
      enough = omega arith;
      left = rw (size_is, past_is) (sym (told_step most behind free at end pairs bytes more sound (sym free_is)) ∙ left);
    }

pub goes_on : (behind free : Bool) (at end size : ℕ) (pairs past : BestPairs) (bytes : List ℕ) (total : Option ℕ) → Goes behind at end pairs bytes total → end ≤ length bytes → at < end → region_fault behind at end bytes ≡ None → size ≡ region_size at bytes
    → free ≡ eqb (number_at 2 at bytes) free_tag → past ≡ pairs_past free at pairs bytes → Goes free (at + size) end past bytes total
goes_on behind free at end size pairs past bytes total so_far whole more sound size_is free_is past_is =
    let here = region_passed behind at end bytes whole sound in
    goes_by so_far.most behind free at end size pairs past bytes total so_far.step so_far.enough so_far.left more sound here.some here.step here.within size_is free_is past_is

stops_by : (most : ℕ) (behind : Bool) (at end fault : ℕ) (pairs : BestPairs) (bytes : List ℕ) (total : Option ℕ) → end ≤ at + 8 * most → told most behind at end pairs bytes ≡ total → at < end → region_fault behind at end bytes ≡ Some fault → total ≡ Some fault
stops_by zero behind at end fault pairs bytes total enough left more wrong = absurd (omega arith)
stops_by (suc most) behind at end fault pairs bytes total enough left more wrong = sym left ∙ told_fault most behind at end fault pairs bytes more wrong

pub stops : (behind : Bool) (at end fault : ℕ) (pairs : BestPairs) (bytes : List ℕ) (total : Option ℕ) → Goes behind at end pairs bytes total → at < end → region_fault behind at end bytes ≡ Some fault → total ≡ Some fault
stops behind at end fault pairs bytes total so_far more wrong = stops_by so_far.most behind at end fault pairs bytes total so_far.enough so_far.left more wrong

pub is_done : (behind : Bool) (at end : ℕ) (pairs : BestPairs) (bytes : List ℕ) (total : Option ℕ) → Goes behind at end pairs bytes total → end ≤ at → total ≡ verdict pairs
is_done behind at end pairs bytes total so_far past = sym so_far.left ∙ told_end so_far.most behind at end pairs bytes past

pub past_free : (free : Bool) (at size : ℕ) (pairs past : BestPairs) (bytes : List ℕ) → free ≡ true → free ≡ eqb (number_at 2 at bytes) free_tag → size ≡ region_size at bytes → past ≡ pairs_weighed pairs (record { place = at; size = size } ∷ []) → past ≡ pairs_past free at pairs bytes
past_free free at size pairs past bytes is free_is size_is past_is =
    let tag : eqb (number_at 2 at bytes) free_tag ≡ true = sym free_is ∙ is in
    let length : size ≡ number_at 2 (at + 2) bytes = size_is ∙ rw tag refl in
    past_is ∙ rw (length, is) refl

pub past_used : (free : Bool) (at : ℕ) (pairs past : BestPairs) (bytes : List ℕ) → free ≡ false → past ≡ pairs → past ≡ pairs_past free at pairs bytes
past_used free at pairs past bytes is past_is = past_is ∙ rw is refl
