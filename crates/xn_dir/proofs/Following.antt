-- The entry to which a leaf entry leads.
use Rattle.std.proofs.Common.{◌≡◌, ◌≢◌, ℕ, ◌+◌, ◌*◌, ◌/◌, ◌%◌, ◌<◌, false, List, [], ◌∷◌, length, get_or, Option, Some, None, Result, Ok, Err, refl, sym, ap, subst, ◌∙◌, arith, inl, inr}
use Rattle.std.specs.Prelude.{Contains, flat_map, IfSome, IfErr, MatchOption}
use Rattle.std.proofs.lemmas.Bool.{cases_eq}
use Rattle.std.proofs.lemmas.List.{get_or_default}
use Rattle.std.proofs.lemmas.List.Elements.{All-contains, Contains-append_cases}
use Rattle.xn_bytes.specs.Extents.{mapped}
use Rattle.xn_bytes.specs.Entries.{Entry}
use Rattle.xn_bytes.specs.DataBlock.{DataForm, DataHolds, LeafEntry, entries_among}
use Rattle.xn_bytes.specs.DirectoryForms.{HasDots, IsDataBlockOf, IsDataNumber}
use Rattle.xn_bytes.specs.LeafForms.{DirFork, Placed, IsPlaced, HasData, all_entries, entries_placed, placed_in, with_first}
use Rattle.xn_bytes.specs.DirectoryRules.{FailsData}
use Rattle.xn_data.proofs.Law.{is_placed, placed_in_block}
use Rattle.xn_dir.specs.declared.entry.Entry as found
use Rattle.xn_dir.specs.Finding.{HasPlace, named}
use Rattle.xn_dir.specs.Hashed.{StandsIn, LeadsElsewhere, LeadsNowhere}
use Rattle.xn_dir.proofs.Members.{at_front, behind_front, in_none, of_map, in_map}
use Rattle.xn_dir.proofs.OneForm.{one_data, same_block}

-- ---- members of what lists give one behind the other

pub of_flat_map : {X Y : Type 0} (f : X → List Y) (xs : List X) (y : Y) → Contains (flat_map f xs) y → (x : X) × Contains xs x × Contains (f x) y
of_flat_map f [] y within = absurd (in_none y within)
of_flat_map f (x ∷ xs) y within = elim (Contains-append_cases (f x) (flat_map f xs) y within) [
  | inl here ↦ (x, at_front x xs, here)
  | inr behind ↦ let rest = of_flat_map f xs y behind in (rest.0, behind_front x rest.0 xs rest.1, rest.2)
]

-- ---- where an entry stands

pub first_placed : (entry : Entry) → entry ≡ placed_in 0 entry
first_placed entry = ap (λ (n : ℕ). record entry { position = n }) (omega arith)

-- an entry of a data block of the directory
pub record Home (d : DirFork) (first : DataForm) (others : List Placed) (entry : Entry) : Type 0 where
  pub placed : Placed
  pub among : Contains (with_first first others) placed
  pub inner : Entry
  pub there : Contains (entries_among placed.form.regions) inner
  pub is : entry ≡ placed_in placed.number inner

pub home_of : (d : DirFork) (first : DataForm) (others : List Placed) (entry : Entry) → Contains (all_entries first others) entry → Home d first others entry
home_of d first others entry within = elim (Contains-append_cases (entries_among first.regions) (flat_map entries_placed others) entry within) [
  | inl here ↦ record { placed = record { number = 0; form = first }; among = at_front _ others; inner = entry; there = here; is = first_placed entry }
  | inr behind ↦
      let found = of_flat_map entries_placed others entry behind in
      let inner = of_map (placed_in found.0.number) (entries_among found.0.form.regions) entry found.2 in
      record { placed = found.0; among = behind_front _ found.0 others found.1; inner = inner.0; there = inner.1; is = sym inner.2 }
]

-- the data block of a leaf entry's address, and the place in it
record HasHome (d : DirFork) (leaf : LeafEntry) : Type 0 where
  form : DataForm
  placed : IsPlaced d (record { number = leaf.address / 512; form = form })
  place : HasPlace (entries_among form.regions) (leaf.address % 512 * 8)

home_of_leaf : (d : DirFork) (leaf : LeafEntry) (first : DataForm) (others : List Placed) (front : List Entry) (dotdot : ℕ) (entry : Entry) → HasData d first others front dotdot → Contains (all_entries first others) entry
    → entry.position / 8 ≡ leaf.address → HasHome d leaf
home_of_leaf d leaf first others front dotdot entry right within at =
    let home = home_of d first others entry within in
    let placed : IsPlaced d home.placed = All-contains (IsPlaced d) (with_first first others) home.placed right.data_blocks.each home.among in
    let inner = is_placed 64 4096 (entries_among home.placed.form.regions) home.inner (placed_in_block _ home.placed.form placed.2.holds) home.there in
    let position : entry.position ≡ 4096 * home.placed.number + home.inner.position = ap (λ (e : Entry). e.position) home.is in
    let low : home.inner.position < 4096 = omega (arith, inner.before) in
    let number : home.placed.number ≡ leaf.address / 512 = omega (arith, position, low, at) in
    record {
      form = home.placed.form;
      placed = subst (λ (n : ℕ). IsPlaced d (record { number = n; form = home.placed.form })) number placed;
      place = (home.inner, home.there, omega (arith, position, low, at, inner.step));
    }

-- ---- leaf entries that lead nowhere

none_some : (o : Option ℕ) (x : ℕ) → o ≡ None → o ≡ Some x → ⊥
none_some o x none some = let e = sym none ∙ some in absurd cc

pub unmapped_leads_nowhere : (d : DirFork) (leaf : LeafEntry) → mapped d.runs (leaf.address / 512) ≡ None → LeadsNowhere d leaf
unmapped_leads_nowhere d leaf none = λ first others front dotdot right entry within at.
    let home = home_of_leaf d leaf first others front dotdot entry right within at in
    none_some _ home.placed.0 none home.placed.1

pub empty_leads_nowhere : (d : DirFork) (leaf : LeafEntry) (block : ℕ) (form : DataForm) → mapped d.runs (leaf.address / 512) ≡ Some block → DataHolds (d.blocks block) form
    → (HasPlace (entries_among form.regions) (leaf.address % 512 * 8) → ⊥) → LeadsNowhere d leaf
empty_leads_nowhere d leaf block form there holds none = λ first others front dotdot right entry within at.
    let home = home_of_leaf d leaf first others front dotdot entry right within at in
    let same : home.placed.0 ≡ block = same_block home.placed.0 block _ home.placed.1 there in
    let in_block : DataHolds (d.blocks block) home.form = subst (λ (b : ℕ). DataHolds (d.blocks b) home.form) same home.placed.2.holds in
    none (subst (λ (one : DataForm). HasPlace (entries_among one.regions) (leaf.address % 512 * 8)) (one_data (d.blocks block) home.form form in_block holds) home.place)

-- ---- a data block that is none

pub no_data : (d : DirFork) (number block : ℕ) → IsDataNumber number → mapped d.runs number ≡ Some block → ((form : DataForm) → IsDataBlockOf d.geometry d.owner false block (d.blocks block) form → ⊥) → FailsData d number block
no_data d number block is_data there wrong = record {
  is_data = (is_data, inr (rw there refl));
  is_wrong = λ right.
      let same : right.1.0 ≡ block = same_block right.1.0 block _ right.1.1 there in
      wrong right.0 (subst (λ (b : ℕ). IsDataBlockOf d.geometry d.owner false b (d.blocks b) right.0) same right.1.2);
  block_is = sym (rw there refl);
}

-- the first one that has no dot and dotdot in front
pub no_first : (d : DirFork) (block : ℕ) → mapped d.runs 0 ≡ Some block
    → ((form : DataForm) (front : List Entry) (dotdot : ℕ) → IsDataBlockOf d.geometry d.owner false block (d.blocks block) form → HasDots (entries_among form.regions) front dotdot → ⊥) → FailsData d 0 block
no_first d block there wrong = record {
  is_data = (omega arith, inl refl);
  is_wrong = λ right.
      let same : right.1.0 ≡ block = same_block right.1.0 block _ right.1.1 there in
      let dots = right.2 refl in
      wrong right.0 dots.0 dots.1 (subst (λ (b : ℕ). IsDataBlockOf d.geometry d.owner false b (d.blocks b) right.0) same right.1.2) dots.2;
  block_is = sym (rw there refl);
}

-- ---- an entry that is there

pub stands_in : (d : DirFork) (number block : ℕ) (form : DataForm) (entry : Entry) → IsDataNumber number → mapped d.runs number ≡ Some block → IsDataBlockOf d.geometry d.owner false block (d.blocks block) form
    → Contains (entries_among form.regions) entry → StandsIn d (placed_in number entry)
stands_in d number block form entry is_data there holds within = record {
  placed = record { number = number; form = form };
  is_data = is_data;
  is_placed = (block, there, holds);
  there = in_map (placed_in number) (entries_among form.regions) entry within;
}

pub found_in : (d : DirFork) (number block : ℕ) (form : DataForm) (entry : Entry) (name : List ℕ) (answered : found.Entry) → IsDataNumber number → mapped d.runs number ≡ Some block → IsDataBlockOf d.geometry d.owner false block (d.blocks block) form
    → Contains (entries_among form.regions) entry → entry.name ≡ name → answered ≡ record { ino = entry.ino; kind = entry.kind; position = 4096 * number + entry.position } → StandsIn d (named name answered)
found_in d number block form entry name answered is_data there holds within is_name is =
    rw (is, ← is_name) (stands_in d number block form entry is_data there holds within)

pub leads_elsewhere : (d : DirFork) (name : List ℕ) (leaf : LeafEntry) (block : ℕ) (form : DataForm) (entry : Entry) → IsDataNumber (leaf.address / 512) → mapped d.runs (leaf.address / 512) ≡ Some block
    → IsDataBlockOf d.geometry d.owner false block (d.blocks block) form → Contains (entries_among form.regions) entry → entry.position ≡ leaf.address % 512 * 8 → entry.name ≢ name → LeadsElsewhere d name leaf
leads_elsewhere d name leaf block form entry is_data there holds within at other = record {
  entry = placed_in (leaf.address / 512) entry;
  stands = stands_in d (leaf.address / 512) block form entry is_data there holds within;
  place = omega (arith, at);
  other = other;
}

-- ---- over an image

pub every : (image : Option (List ℕ)) (P : List ℕ → Type 0) → ((x : List ℕ) → P x) → IfSome image P
every None P all = tt
every (Some x) P all = all x

pub IfSome_both : (image : Option (List ℕ)) {P Q R : List ℕ → Type 0} → IfSome image P → IfSome image Q → ((x : List ℕ) → P x → Q x → R x) → IfSome image R
IfSome_both None p q leads = tt
IfSome_both (Some x) p q leads = leads x p q

-- what holds in any case holds where a result is a fault
pub IfErr_all : {T E : Type 0} (r : Result T E) (P : Type 0) → P → IfErr r (λ _. P)
IfErr_all (Ok value) P p = tt
IfErr_all (Err fault) P p = p

-- ---- one leaf entry after the other

pub one_more_passed : {X : Type 0} (P : X → Type 0) (xs : List X) (n : ℕ) (x : X) → n < length xs → x ≡ get_or xs n x → P x → ((k : ℕ) (d : X) → k < n → P (get_or xs k d)) → (k : ℕ) (d : X) → k < n + 1 → P (get_or xs k d)
one_more_passed P xs n x within here holds before k d below = elim (cases_eq k n) [
  | inl e ↦ subst P (here ∙ get_or_default xs n x d within ∙ sym (ap (λ (m : ℕ). get_or xs m d) e)) holds
  | inr other ↦ before k d (omega (arith, below, other))
]

pub match_weaker : {T : Type 0} (r : Option T) {A B : Type 0} {P Q : T → Type 0} → MatchOption r A P → (A → B) → ((x : T) → P x → Q x) → MatchOption r B Q
match_weaker None none leads some = leads none
match_weaker (Some x) holds leads some = some x holds
