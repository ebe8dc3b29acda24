-- Regions that stand from a place on: the one at the front, and those behind it.
use Rattle.std.proofs.Common.{◌≡◌, ℕ, ◌+◌, ◌<◌, ◌≤◌, Bool, true, false, eqb, List, [], ◌∷◌, length, slice_index, refl, sym, ap, subst, ◌∙◌, arith, inl, inr, Some, None}
use Rattle.std.proofs.lemmas.Bool.{true≢false, cases_lt}
use Rattle.xn_bytes.specs.Numbers.{number_at}
use Rattle.xn_bytes.specs.Entries.{Entry, data_entry_length}
use Rattle.xn_bytes.specs.DataBlock.{Region, EntryStands, GapStands, AreRegions, free_tag, most_regions, region_size, region_fault, entry_at, region_at, regions_at, entries_among}
use Rattle.xn_data.specs.Standing.{StandFrom}
use Rattle.xn_data.proofs.Regions.{gap_at, entry_size, regions_again, used_passed, used_again}
use Rattle.xn_data.proofs.Walk.{list_step, list_end}

-- the regions that stand are those that are read, however many are read at most
again : (behind : Bool) (at end : ℕ) (bytes : List ℕ) (regions : List Region) → end ≤ 4096 → AreRegions behind at end bytes regions → regions_at most_regions at end bytes ≡ regions
again behind at end bytes regions small stand = (regions_again regions most_regions behind at end bytes (omega arith) stand).read

stand_again : (behind : Bool) (at end : ℕ) (bytes : List ℕ) (regions : List Region) → end ≤ 4096 → end ≤ length bytes → AreRegions behind at end bytes regions → StandFrom behind at end bytes
stand_again behind at end bytes regions small within stand = record { small = small; within = within; stand = rw (again behind at end bytes regions small stand) stand }

-- those behind the one at a place
abbrev behind_at : ℕ → ℕ → List ℕ → List Region
behind_at at end bytes = regions_at 511 (at + region_size at bytes) end bytes

split : (at end : ℕ) (bytes : List ℕ) → at < end → regions_at most_regions at end bytes ≡ region_at at bytes ∷ behind_at at end bytes
split at end bytes more = list_step 511 at end bytes more

at_front : (behind : Bool) (at end : ℕ) (bytes : List ℕ) → StandFrom behind at end bytes → at < end → AreRegions behind at end bytes (region_at at bytes ∷ behind_at at end bytes)
at_front behind at end bytes from more = rw (← split at end bytes more) from.stand

-- ---- an entry at the front

pub record EntryFront (at end : ℕ) (bytes : List ℕ) : Type 0 where
  pub stands : EntryStands end bytes (entry_at at bytes)
  pub some : 16 ≤ data_entry_length (slice_index bytes (at + 8))
  pub within : at + data_entry_length (slice_index bytes (at + 8)) ≤ end
  pub rest : StandFrom false (at + data_entry_length (slice_index bytes (at + 8))) end bytes
  pub entries : entries_among (regions_at most_regions at end bytes) ≡ entry_at at bytes ∷ entries_among (regions_at most_regions (at + data_entry_length (slice_index bytes (at + 8))) end bytes)

used_parts : (behind : Bool) (at end : ℕ) (bytes : List ℕ) (regions : List Region) → eqb (number_at 2 at bytes) free_tag ≡ false → AreRegions behind at end bytes (region_at at bytes ∷ regions)
    → EntryStands end bytes (entry_at at bytes) × AreRegions false (at + data_entry_length (length (entry_at at bytes).name)) end bytes regions
used_parts behind at end bytes regions tag stand = let parts = rw tag at stand in (parts.1, parts.2)

used_among : (at : ℕ) (bytes : List ℕ) (regions : List Region) → eqb (number_at 2 at bytes) free_tag ≡ false → entries_among (region_at at bytes ∷ regions) ≡ entry_at at bytes ∷ entries_among regions
used_among at bytes regions tag = rw tag refl

pub entry_front : (behind : Bool) (at end : ℕ) (bytes : List ℕ) → StandFrom behind at end bytes → at < end → eqb (number_at 2 at bytes) free_tag ≡ false → EntryFront at end bytes
entry_front behind at end bytes from more tag =
    let n : ℕ = slice_index bytes (at + 8) in
    let regions : List Region = behind_at at end bytes in
    let parts = used_parts behind at end bytes regions tag (at_front behind at end bytes from more) in
    let same : length (entry_at at bytes).name ≡ n = parts.0.name_length in
    let others : AreRegions false (at + data_entry_length n) end bytes regions = subst (λ (k : ℕ). AreRegions false (at + data_entry_length k) end bytes regions) same parts.1 in
    record {
      stands = parts.0;
      some = (entry_size n).least;
      within = subst (λ (k : ℕ). at + data_entry_length k ≤ end) same parts.0.within;
      rest = stand_again false (at + data_entry_length n) end bytes regions from.small from.within others;
      entries =
          ap entries_among (split at end bytes more)
          ∙ used_among at bytes regions tag
          ∙ ap (λ (rest : List Region). entry_at at bytes ∷ entries_among rest) (sym (again false (at + data_entry_length n) end bytes regions from.small others));
    }

-- ---- a free region at the front

pub record FreeFront (at end : ℕ) (bytes : List ℕ) : Type 0 where
  pub some : 8 ≤ number_at 2 (at + 2) bytes
  pub within : at + number_at 2 (at + 2) bytes ≤ end
  pub rest : StandFrom true (at + number_at 2 (at + 2) bytes) end bytes
  pub entries : entries_among (regions_at most_regions (at + number_at 2 (at + 2) bytes) end bytes) ≡ entries_among (regions_at most_regions at end bytes)

free_parts : (behind : Bool) (at end : ℕ) (bytes : List ℕ) (regions : List Region) → eqb (number_at 2 at bytes) free_tag ≡ true → AreRegions behind at end bytes (region_at at bytes ∷ regions)
    → (behind ≡ false) × GapStands end bytes (gap_at at bytes) × AreRegions true (at + number_at 2 (at + 2) bytes) end bytes regions
free_parts behind at end bytes regions tag stand = let parts = rw tag at stand in (parts.0, parts.2, parts.3)

free_among : (at : ℕ) (bytes : List ℕ) (regions : List Region) → eqb (number_at 2 at bytes) free_tag ≡ true → entries_among (region_at at bytes ∷ regions) ≡ entries_among regions
free_among at bytes regions tag = rw tag refl

pub free_front : (behind : Bool) (at end : ℕ) (bytes : List ℕ) → StandFrom behind at end bytes → at < end → eqb (number_at 2 at bytes) free_tag ≡ true → FreeFront at end bytes
free_front behind at end bytes from more tag =
    let size : ℕ = number_at 2 (at + 2) bytes in
    let regions : List Region = behind_at at end bytes in
    let parts = free_parts behind at end bytes regions tag (at_front behind at end bytes from more) in
    record {
      some = parts.1.some;
      within = parts.1.within;
      rest = stand_again true (at + size) end bytes regions from.small from.within parts.2;
      entries =
          ap entries_among (again true (at + size) end bytes regions from.small parts.2)
          ∙ sym (free_among at bytes regions tag)
          ∙ sym (ap entries_among (split at end bytes more));
    }

-- ---- a region at the front

reaches_by : (free behind : Bool) (at end : ℕ) (bytes : List ℕ) → StandFrom behind at end bytes → at < end → eqb (number_at 2 at bytes) free_tag ≡ free → at + 8 ≤ end
reaches_by true behind at end bytes from more tag = let front = free_front behind at end bytes from more tag in omega (arith, front.some, front.within)
reaches_by false behind at end bytes from more tag = let front = entry_front behind at end bytes from more tag in omega (arith, front.some, front.within)

pub reaches : (behind : Bool) (at end : ℕ) (bytes : List ℕ) → StandFrom behind at end bytes → at < end → at + 8 ≤ end
reaches behind at end bytes from more = reaches_by (eqb (number_at 2 at bytes) free_tag) behind at end bytes from more refl

not_free_by : (free : Bool) (at end : ℕ) (bytes : List ℕ) → StandFrom true at end bytes → at < end → eqb (number_at 2 at bytes) free_tag ≡ free → free ≡ false
not_free_by false at end bytes from more tag = refl
not_free_by true at end bytes from more tag = absurd (true≢false (free_parts true at end bytes (behind_at at end bytes) tag (at_front true at end bytes from more)).0)

-- behind a free region none is free
pub not_free : (at end : ℕ) (bytes : List ℕ) → StandFrom true at end bytes → at < end → eqb (number_at 2 at bytes) free_tag ≡ false
not_free at end bytes from more = not_free_by (eqb (number_at 2 at bytes) free_tag) at end bytes from more refl

-- the entry at the front, and those that are left
pub front_first : (now : List Entry) (at end size next : ℕ) (bytes : List ℕ) (entry : Entry) → StandFrom true at end bytes → at < end → entries_among (regions_at most_regions at end bytes) ≡ now → entry ≡ entry_at at bytes → size ≡ data_entry_length (slice_index bytes (at + 8))
    → entries_among (regions_at most_regions next end bytes) ≡ entries_among (regions_at most_regions (at + size) end bytes) → now ≡ entry ∷ entries_among (regions_at most_regions next end bytes)
front_first now at end size next bytes entry from more view entry_is size_is next_is =
    let front = entry_front true at end bytes from more (not_free at end bytes from more) in
    sym view ∙ front.entries
    ∙ ap (λ (one : Entry). one ∷ entries_among (regions_at most_regions (at + data_entry_length (slice_index bytes (at + 8))) end bytes)) (sym entry_is)
    ∙ ap (λ (k : ℕ). entry ∷ entries_among (regions_at most_regions (at + k) end bytes)) (sym size_is)
    ∙ ap (λ (rest : List Entry). entry ∷ rest) (sym next_is)

-- where none is free at the front, it makes no difference whether one is before it
none_free : (at end : ℕ) (bytes : List ℕ) → StandFrom false at end bytes → end ≤ at → StandFrom true at end bytes
none_free at end bytes from past =
    let none : regions_at most_regions at end bytes ≡ [] = list_end most_regions at end bytes past in
    stand_again true at end bytes [] from.small from.within (subst (λ (regions : List Region). AreRegions false at end bytes regions) none from.stand)

used_either : (at end : ℕ) (bytes : List ℕ) (regions : List Region) → eqb (number_at 2 at bytes) free_tag ≡ false → AreRegions false at end bytes (region_at at bytes ∷ regions) → AreRegions true at end bytes (region_at at bytes ∷ regions)
used_either at end bytes regions tag stand = rw tag (rw tag at stand)

pub stays : (at end : ℕ) (bytes : List ℕ) → StandFrom false at end bytes → (at < end → eqb (number_at 2 at bytes) free_tag ≡ false) → StandFrom true at end bytes
stays at end bytes from tag =
    elim (cases_lt at end) [
      | inl more ↦
          stand_again true at end bytes (region_at at bytes ∷ behind_at at end bytes) from.small from.within
          (used_either at end bytes (behind_at at end bytes) (tag more) (at_front false at end bytes from more))
      | inr past ↦ none_free at end bytes from past
    ]

-- ---- one entry, looked at by itself

-- an entry that passes stands there
pub entry_in : (at end : ℕ) (bytes : List ℕ) → end ≤ length bytes → eqb (number_at 2 at bytes) free_tag ≡ false → region_fault false at end bytes ≡ None → EntryStands end bytes (entry_at at bytes)
entry_in at end bytes within tag sound = used_passed false at end bytes within tag sound

pub entry_room : (at end : ℕ) (bytes : List ℕ) → end ≤ length bytes → eqb (number_at 2 at bytes) free_tag ≡ false → region_fault false at end bytes ≡ None → at + data_entry_length (slice_index bytes (at + 8)) ≤ end
entry_room at end bytes within tag sound =
    let stands = used_passed false at end bytes within tag sound in
    subst (λ (k : ℕ). at + data_entry_length k ≤ end) stands.name_length stands.within

-- where one stands, none is free and nothing fails
pub no_entry_with_fault : (at end fault : ℕ) (bytes : List ℕ) (entry : Entry) → entry.position ≡ at → EntryStands end bytes entry → region_fault false at end bytes ≡ Some fault → ⊥
no_entry_with_fault at end fault bytes entry place stands wrong = let sound = (used_again false at end bytes entry place stands).fault in absurd cc

pub no_entry_in_free : (at end : ℕ) (bytes : List ℕ) (entry : Entry) → entry.position ≡ at → EntryStands end bytes entry → eqb (number_at 2 at bytes) free_tag ≡ true → ⊥
no_entry_in_free at end bytes entry place stands free = let used = (used_again false at end bytes entry place stands).tag in absurd cc

pub no_entry_in_little : (at end : ℕ) (bytes : List ℕ) (entry : Entry) → entry.position ≡ at → EntryStands end bytes entry → end < at + 16 → ⊥
no_entry_in_little at end bytes entry place stands little = absurd (omega (arith, stands.within, (entry_size (length entry.name)).least))

-- one entry stands at a place
pub one_entry : (at end : ℕ) (bytes : List ℕ) (one other : Entry) → one.position ≡ at → other.position ≡ at → EntryStands end bytes one → EntryStands end bytes other → one ≡ other
one_entry at end bytes one other place place_too stands stands_too =
    let read = (used_again false at end bytes one place stands).read in
    let read_too = (used_again false at end bytes other place_too stands_too).read in
    (cc)
