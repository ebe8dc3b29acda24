-- Where the entries of a block stand: from the header's end on, in rising order, at multiples of 8, so that no two stand
-- at one position.
use Rattle.std.proofs.Common.{◌≡◌, ℕ, zero, suc, ◌+◌, ◌*◌, ◌%◌, ◌<◌, ◌≤◌, Bool, true, false, List, [], ◌∷◌, length, get_or, refl, sym, ap, subst, ◌∙◌, arith}
use Rattle.std.specs.Prelude.{Contains}
use Rattle.xn_bytes.specs.Entries.{Entry, data_entry_length}
use Rattle.xn_bytes.specs.DataBlock.{Region, DataForm, DataHolds, EntryStands, AreRegions, area_end, block_size, header_size, entries_among}
use Rattle.xn_bytes.specs.DataBlock.Region.{Used, Free}
use Rattle.xn_data.specs.Standing.{ArePlaced}
use Rattle.xn_data.proofs.Regions.{entry_size}
use Rattle.xn_data.proofs.Verdicts.{area_within}

-- ---- entries that are placed

pub placed_later : (at later end : ℕ) (entries : List Entry) → at ≤ later → ArePlaced later end entries → ArePlaced at end entries
placed_later at later end [] h placed = omega arith
placed_later at later end (entry ∷ entries) h placed = let low : later ≤ entry.position = placed.0 in (omega arith, placed.1, placed.2)

pub placed_more : (at end more : ℕ) (entries : List Entry) → end ≤ more → ArePlaced at end entries → ArePlaced at more entries
placed_more at end more [] h placed = omega arith
placed_more at end more (entry ∷ entries) h placed = (placed.0, placed.1, placed_more (entry.position + data_entry_length (length entry.name)) end more entries h placed.2)

-- so many have place
pub placed_few : (at end : ℕ) (entries : List Entry) → ArePlaced at end entries → at + 16 * length entries ≤ end
placed_few at end [] placed = omega (arith, placed)
placed_few at end (entry ∷ entries) placed =
    let low : at ≤ entry.position = placed.0 in
    let size = (entry_size (length entry.name)).least in
    let rest = placed_few (entry.position + data_entry_length (length entry.name)) end entries placed.2 in
    omega arith

-- where one entry among placed ones stands
pub record IsPlaced (at end : ℕ) (entry : Entry) : Type 0 where
  pub behind : at ≤ entry.position
  pub step : entry.position % 8 ≡ 0
  pub before : entry.position + data_entry_length (length entry.name) ≤ end

end_behind : (at end : ℕ) (entries : List Entry) → ArePlaced at end entries → at ≤ end
end_behind at end [] placed = placed
end_behind at end (entry ∷ entries) placed =
    let low : at ≤ entry.position = placed.0 in
    let rest = end_behind (entry.position + data_entry_length (length entry.name)) end entries placed.2 in
    omega arith

is_placed_at : (k at end : ℕ) (entries : List Entry) (d : Entry) → ArePlaced at end entries → k < length entries → IsPlaced at end (get_or entries k d)
is_placed_at k at end [] d placed h = absurd (omega arith)
is_placed_at zero at end (entry ∷ entries) d placed h = record { behind = placed.0; step = placed.1; before = end_behind (entry.position + data_entry_length (length entry.name)) end entries placed.2 }
is_placed_at (suc k) at end (entry ∷ entries) d placed h =
    let low : at ≤ entry.position = placed.0 in
    let later = is_placed_at k (entry.position + data_entry_length (length entry.name)) end entries d placed.2 (omega arith) in
    record { behind = omega (arith, later.behind); step = later.step; before = later.before }

pub is_placed : (at end : ℕ) (entries : List Entry) (entry : Entry) → ArePlaced at end entries → Contains entries entry → IsPlaced at end entry
is_placed at end entries entry placed among = subst (λ (e : Entry). IsPlaced at end e) among.2 (is_placed_at among.0 at end entries entry placed among.1)

one_at : (j k at end : ℕ) (entries : List Entry) (one other : Entry) → ArePlaced at end entries → j < length entries → k < length entries → get_or entries j one ≡ one → get_or entries k other ≡ other → one.position ≡ other.position → one ≡ other
one_at j k at end [] one other placed h i a b same = absurd (omega arith)
one_at zero zero at end (entry ∷ entries) one other placed h i a b same = sym a ∙ b
one_at zero (suc k) at end (entry ∷ entries) one other placed h i a b same =
    let later = is_placed_at k (entry.position + data_entry_length (length entry.name)) end entries other placed.2 (omega arith) in
    let size = (entry_size (length entry.name)).least in
    absurd (omega (arith, later.behind, ap (λ (e : Entry). e.position) a, ap (λ (e : Entry). e.position) b))
one_at (suc j) zero at end (entry ∷ entries) one other placed h i a b same =
    let later = is_placed_at j (entry.position + data_entry_length (length entry.name)) end entries one placed.2 (omega arith) in
    let size = (entry_size (length entry.name)).least in
    absurd (omega (arith, later.behind, ap (λ (e : Entry). e.position) a, ap (λ (e : Entry). e.position) b))
one_at (suc j) (suc k) at end (entry ∷ entries) one other placed h i a b same =
    one_at j k (entry.position + data_entry_length (length entry.name)) end entries one other placed.2 (omega arith) (omega arith) a b same

-- no two entries have one position
pub one_at_position : (at end : ℕ) (entries : List Entry) (one other : Entry) → ArePlaced at end entries → Contains entries one → Contains entries other → one.position ≡ other.position → one ≡ other
one_at_position at end entries one other placed among among_too same = one_at among.0 among_too.0 at end entries one other placed among.1 among_too.1 among.2 among_too.2 same

-- ---- entries of regions

pub regions_placed : (behind : Bool) (at end : ℕ) (bytes : List ℕ) (regions : List Region) → at % 8 ≡ 0 → AreRegions behind at end bytes regions → ArePlaced at end (entries_among regions)
regions_placed behind at end bytes [] step stand = omega arith
regions_placed behind at end bytes (Used entry ∷ regions) step stand =
    let place : entry.position ≡ at = stand.0 in
    let size = entry_size (length entry.name) in
    let next : at + data_entry_length (length entry.name) ≡ entry.position + data_entry_length (length entry.name) = omega arith in
    let others = regions_placed false (at + data_entry_length (length entry.name)) end bytes regions (omega (arith, size.step)) stand.2 in
    (omega arith, omega arith, subst (λ (k : ℕ). ArePlaced k end (entries_among regions)) next others)
regions_placed behind at end bytes (Free gap ∷ regions) step stand =
    placed_later at (at + gap.size) end (entries_among regions) (omega arith) (regions_placed true (at + gap.size) end bytes regions (omega (arith, stand.2.step)) stand.3)

-- The entries of a block are placed from its header on, up to where its regions end.
pub placed : (bytes : List ℕ) (form : DataForm) → DataHolds bytes form → ArePlaced header_size (area_end bytes) (entries_among form.regions)
placed bytes form holds = regions_placed false header_size (area_end bytes) bytes form.regions refl holds.regions

pub placed_in_block : (bytes : List ℕ) (form : DataForm) → DataHolds bytes form → ArePlaced header_size block_size (entries_among form.regions)
placed_in_block bytes form holds = placed_more header_size (area_end bytes) block_size (entries_among form.regions) (area_within bytes) (placed bytes form holds)

-- ---- entries stand where they are said to

stands_at : (k : ℕ) (behind : Bool) (at end : ℕ) (bytes : List ℕ) (regions : List Region) (d : Entry) → AreRegions behind at end bytes regions → k < length (entries_among regions) → EntryStands end bytes (get_or (entries_among regions) k d)
stands_at k behind at end bytes [] d stand h = absurd (omega arith)
stands_at zero behind at end bytes (Used entry ∷ regions) d stand h = stand.1
stands_at (suc k) behind at end bytes (Used entry ∷ regions) d stand h = stands_at k false (at + data_entry_length (length entry.name)) end bytes regions d stand.2 (omega arith)
stands_at k behind at end bytes (Free gap ∷ regions) d stand h = stands_at k true (at + gap.size) end bytes regions d stand.3 h

pub stands : (bytes : List ℕ) (form : DataForm) (entry : Entry) → DataHolds bytes form → Contains (entries_among form.regions) entry → EntryStands (area_end bytes) bytes entry
stands bytes form entry holds among = subst (λ (e : Entry). EntryStands (area_end bytes) bytes e) among.2 (stands_at among.0 false header_size (area_end bytes) bytes form.regions entry holds.regions among.1)
