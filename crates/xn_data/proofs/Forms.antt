-- A block without fault holds what is read in it, and one that holds something has no fault and is read so.
use Rattle.std.proofs.Common.{◌≡◌, ℕ, ◌+◌, ◌-◌, ◌*◌, ◌≤◌, Bool, true, false, not, cond, ltb, eqb, List, length, Option, Some, None, refl, sym, ap, subst, ◌∙◌, arith}
use Rattle.std.specs.Prelude.{◌&&◌, slice_range, Contains, MatchOption, IsSomeAnd}
use Rattle.std.proofs.lemmas.Bool.{ltb-false, le-ltb, eqb-true, eq-eqb, ne_eqb, not-false}
use Rattle.xn_bytes.specs.Numbers.{number_at, little_number_at}
use Rattle.xn_bytes.specs.Entries.{Entry}
use Rattle.xn_bytes.specs.Checksum.{checksum_with}
use Rattle.xn_bytes.specs.DataBlock.{block_size, DataForm, LeafEntry, DataHolds, EntryStands, leaf_count, leaves_at, regions_at, entries_among, HasBestPairs, Region, area_end, block_form_magic, has_block_form, data_magic, header_size, most_regions, regions_of, gaps_among, pairs_fault, data_fault, data_in, leaves_of, stale_of}
use Rattle.xn_data.specs.declared.entry.DataEntry.{DataEntry}
use Rattle.xn_data.specs.Viewed.{entry_of}
use Rattle.xn_data.specs.Standing.{StandFrom}
use Rattle.xn_data.proofs.Law.{is_placed, placed, placed_few, placed_in_block, stands}
use Rattle.xn_bytes.proofs.LeafEntries.{count_leaves}
use Rattle.xn_data.proofs.Standing.{one_entry}
use Rattle.xn_data.proofs.Regions.{guard_none, first_none, regions_passed, regions_again}
use Rattle.xn_data.proofs.Weighing.{named_by, fault_none}
use Rattle.xn_data.proofs.Verdicts.{area_within}

-- ---- the pairs

pairs_named : (bytes : List ℕ) (regions : List Region) → pairs_fault bytes (gaps_among regions) ≡ None → HasBestPairs bytes (gaps_among regions)
unfolding pairs_fault
pairs_named bytes regions e =
    let one = first_none _ _ e in
    let two = first_none _ _ one.1 in
    record { first = named_by 48 _ _ one.0; second = named_by 52 _ _ two.0; third = named_by 56 _ _ two.1 }

pairs_right : (bytes : List ℕ) (regions : List Region) → HasBestPairs bytes (gaps_among regions) → pairs_fault bytes (gaps_among regions) ≡ None
unfolding pairs_fault
pairs_right bytes regions named = rw (fault_none 48 _ _ named.first, fault_none 52 _ _ named.second, fault_none 56 _ _ named.third) refl

-- ---- the magic number

magic_of : (block_form : Bool) (magic : ℕ) → eqb magic block_form_magic ≡ block_form → (not block_form && not (eqb magic data_magic)) ≡ false → magic ≡ cond block_form block_form_magic data_magic
magic_of true magic is e = eqb-true _ _ is
magic_of false magic is e = eqb-true _ _ (not-false _ e)

form_of : (block_form : Bool) (magic : ℕ) → magic ≡ cond block_form block_form_magic data_magic → eqb magic block_form_magic ≡ block_form
form_of true magic is = eq-eqb _ _ is
form_of false magic is = ne_eqb _ _ (λ e. omega arith)

magic_right : (block_form : Bool) (magic : ℕ) → magic ≡ cond block_form block_form_magic data_magic → (not (eqb magic block_form_magic) && not (eqb magic data_magic)) ≡ false
magic_right true magic is = rw is refl
magic_right false magic is = rw is refl

-- ---- the whole

pub form_read : (bytes : List ℕ) → length bytes ≡ 4096 → data_fault bytes ≡ None → DataHolds bytes (data_in bytes)
unfolding data_fault data_in
form_read bytes size e =
    let end : ℕ = area_end bytes in
    let within = area_within bytes in
    let whole : end ≤ length bytes = omega (arith, size, within) in
    let enough : end ≤ header_size + 8 * most_regions = omega (arith, within) in
    let g0 = guard_none _ _ _ e in
    let g1 = guard_none _ _ _ g0.1 in
    let g2 = guard_none _ _ _ g1.1 in
    let both = first_none _ _ g2.1 in
    let room : 64 ≤ end = ltb-false _ _ g2.0 in
    let stand = regions_passed most_regions false header_size end bytes whole room enough both.0 in
    record {
      whole = size;
      magic = magic_of (has_block_form bytes) (number_at 4 0 bytes) refl g0.0;
      checksum = eqb-true _ _ (not-false _ g1.0);
      place = refl;
      uuid = refl;
      owner = refl;
      room = room;
      regions = stand;
      pairs = pairs_named bytes (regions_of bytes) both.1;
      leaves = refl;
      stale = refl;
    }

same_form : (block_form : Bool) (place owner stale : ℕ) (uuid : List ℕ) (regions : List Region) (leaves : List LeafEntry) (form : DataForm) → block_form ≡ form.is_block_form → place ≡ form.place → uuid ≡ form.uuid → owner ≡ form.owner → regions ≡ form.regions → leaves ≡ form.leaves → stale ≡ form.stale
    → record { is_block_form = block_form; place = place; uuid = uuid; owner = owner; regions = regions; leaves = leaves; stale = stale } ≡ form
same_form block_form place owner stale uuid regions leaves form a b c d e f g = rw (a, b, c, d, e, f, g) refl

pub record IsRead (bytes : List ℕ) (form : DataForm) : Type 0 where
  pub sound : data_fault bytes ≡ None
  pub read : data_in bytes ≡ form

pub holds_read : (bytes : List ℕ) (form : DataForm) → DataHolds bytes form → IsRead bytes form
unfolding data_fault data_in
holds_read bytes form holds =
    let end : ℕ = area_end bytes in
    let within = area_within bytes in
    let again = regions_again form.regions most_regions false header_size end bytes (omega (arith, within)) holds.regions in
    let a : (not (has_block_form bytes) && not (eqb (number_at 4 0 bytes) data_magic)) ≡ false = magic_right form.is_block_form (number_at 4 0 bytes) holds.magic in
    let b : eqb (little_number_at 4 4 bytes) (checksum_with bytes 4) ≡ true = eq-eqb _ _ holds.checksum in
    let c : ltb end 64 ≡ false = le-ltb _ _ holds.room in
    let regions : regions_of bytes ≡ form.regions = again.read in
    let d : pairs_fault bytes (gaps_among (regions_of bytes)) ≡ None = rw regions (pairs_right bytes form.regions holds.pairs) in
    let block_form : has_block_form bytes ≡ form.is_block_form = form_of form.is_block_form (number_at 4 0 bytes) holds.magic in
    record {
      sound = rw (a, b, c, again.fault, d) refl;
      read = same_form (has_block_form bytes) (number_at 8 8 bytes) (number_at 8 40 bytes) (stale_of bytes) (slice_range bytes 24 40) (regions_of bytes) (leaves_of bytes) form block_form (sym holds.place) (sym holds.uuid) (sym holds.owner) regions (sym holds.leaves) (sym holds.stale);
    }

pub no_form_with_fault : (bytes : List ℕ) (at : ℕ) → data_fault bytes ≡ Some at → (form : DataForm) → DataHolds bytes form → ⊥
no_form_with_fault bytes at wrong form holds =
    let sound = (holds_read bytes form holds).sound in
    absurd cc

-- ---- what the block's parts are

pub stands_from : (bytes : List ℕ) (form : DataForm) (end : ℕ) → DataHolds bytes form → end ≡ area_end bytes → StandFrom false header_size end bytes
stands_from bytes form end holds end_is =
    let within = area_within bytes in
    let again = regions_again form.regions most_regions false header_size (area_end bytes) bytes (omega (arith, within)) holds.regions in
    rw end_is (record { small = within; within = omega (arith, within, holds.whole); stand = rw again.read holds.regions })

pub entries_are : (bytes : List ℕ) (form : DataForm) (end : ℕ) (entries : List Entry) → entries ≡ entries_among (regions_at most_regions header_size end bytes) → end ≡ area_end bytes → data_in bytes ≡ form → entries ≡ entries_among form.regions
unfolding data_in
entries_are bytes form end entries read end_is form_is =
    read
    ∙ ap (λ (e : ℕ). entries_among (regions_at most_regions header_size e bytes)) end_is
    ∙ ap (λ (f : DataForm). entries_among f.regions) form_is

pub leaves_are : (bytes : List ℕ) (end count : ℕ) → has_block_form bytes ≡ true → count ≡ leaf_count bytes → end ≡ area_end bytes → leaves_at count end bytes ≡ leaves_of bytes
leaves_are bytes end count block_form count_is end_is = rw (count_is, end_is, block_form) refl

pub leaves_none : (bytes : List ℕ) (end count : ℕ) → has_block_form bytes ≡ false → count ≡ 0 → leaves_at count end bytes ≡ leaves_of bytes
unfolding leaves_at
leaves_none bytes end count other count_is = rw (count_is, other) refl

pub entries_few : (bytes : List ℕ) (form : DataForm) (entries : List Entry) → DataHolds bytes (data_in bytes) → data_in bytes ≡ form → entries ≡ entries_among form.regions → length entries ≤ 252
entries_few bytes form entries holds form_is entries_is =
    let held : DataHolds bytes form = subst (DataHolds bytes) form_is holds in
    rw entries_is (omega (arith, placed_few header_size block_size (entries_among form.regions) (placed_in_block bytes form held)))

few_by : (block_form : Bool) (bytes : List ℕ) → has_block_form bytes ≡ block_form → 64 ≤ area_end bytes → length (leaves_of bytes) ≤ 503
few_by true bytes is room =
    let some : 64 ≤ 4088 - 8 * leaf_count bytes = rw is at room in
    let all : length (leaves_of bytes) ≡ leaf_count bytes = ap length (sym (leaves_are bytes (area_end bytes) (leaf_count bytes) is refl refl)) ∙ count_leaves (leaf_count bytes) (area_end bytes) bytes in
    omega (arith, some, all)
few_by false bytes is room = rw is (omega arith)

pub leaves_few : (bytes : List ℕ) (form : DataForm) (leaves : List LeafEntry) → DataHolds bytes (data_in bytes) → data_in bytes ≡ form → leaves ≡ form.leaves → length leaves ≤ 503
leaves_few bytes form leaves holds form_is leaves_is =
    let held : DataHolds bytes form = subst (DataHolds bytes) form_is holds in
    rw (leaves_is, held.leaves) (few_by (has_block_form bytes) bytes refl held.room)

-- what is found at a position
abbrev InPlace : ℕ → List ℕ → ℕ → Option DataEntry → Type 0
InPlace end bytes position found =
    MatchOption found ((entry : Entry) → entry.position ≡ position → 64 ≤ position → EntryStands end bytes entry → ⊥) (λ entry. (entry.position ≡ position) × (64 ≤ position) × EntryStands end bytes (entry_of entry))

finds_by : (bytes : List ℕ) (end position : ℕ) (found : Option DataEntry) (entry : Entry) → 64 ≤ position → EntryStands end bytes entry → InPlace end bytes position found → entry.position ≡ position → IsSomeAnd found (λ one. entry_of one ≡ entry)
finds_by bytes end position None entry low here in_place place = absurd (in_place entry place low here)
finds_by bytes end position (Some one) entry low here in_place place = one_entry position end bytes (entry_of one) entry in_place.0 place in_place.2 here

pub finds_there : (bytes : List ℕ) (form : DataForm) (end position : ℕ) (found : Option DataEntry) (entry : Entry) → DataHolds bytes (data_in bytes) → data_in bytes ≡ form → end ≡ area_end bytes → InPlace end bytes position found → Contains (entries_among form.regions) entry → entry.position ≡ position
    → IsSomeAnd found (λ one. entry_of one ≡ entry)
finds_there bytes form end position found entry holds form_is end_is in_place among place =
    let held : DataHolds bytes form = subst (DataHolds bytes) form_is holds in
    let where_placed = is_placed header_size (area_end bytes) (entries_among form.regions) entry (placed bytes form held) among in
    let here : EntryStands end bytes entry = rw end_is (stands bytes form entry held among) in
    finds_by bytes end position found entry (omega (arith, where_placed.behind)) here in_place place
