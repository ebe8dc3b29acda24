-- What the functions on entries and parent records require of lists.
use Rattle.std.proofs.Common.{◌≡◌, ◌≢◌, ◌↔◌, ℕ, ◌+◌, ◌<◌, true, false, List, [], ◌∷◌, length, map, refl, sym, ap, ◌∙◌, arith, inl, inr, eq-eqb, ne_eqb}
use Rattle.std.specs.Prelude.{◌==◌, ◌&&◌, All, count_by}
use Rattle.std.specs.List.{AllAdjacentBelow}
use Rattle.std.proofs.lemmas.List.{get_or-map, length-map}
use Rattle.std.proofs.lemmas.List.Elements.{All-map, All-weaker}
use Rattle.xn_bytes.specs.ParentRecords.{IsBefore}
use Rattle.xn_items.specs.declared.parent.ParentRec.{ParentRec}
use Rattle.xn_items.specs.Viewed.{record_of}
use Rattle.xn_rules.specs.Namings as namings
use Rattle.xn_rules.specs.NameRules.{is_directory, says_directory}
use Rattle.xn_names.specs.declared.entry.Naming.{Naming}
use Rattle.xn_names.specs.Names.{naming_of}
use Rattle.xn_names.proofs.Filtered.{filter_none, filter_each}
use Rattle.xn_names.proofs.Counted.{count_by-map}
use Rattle.xn_names.proofs.Moved.{count_filter}
use Rattle.xn_names.proofs.Ways.{leads_named, one_step, some_named, named_some}

-- parents of rising directories are in order
pub rising_records : (parents : List ParentRec) → AllAdjacentBelow (λ a b. a.dir < b.dir) parents (length parents)
    → AllAdjacentBelow IsBefore (map record_of parents) (length (map record_of parents))
rising_records [] rising k d lt = absurd (omega arith)
rising_records (p ∷ parents) rising k d lt =
    let within : k + 1 < length (p ∷ parents) = rw (length-map (p ∷ parents) record_of) at lt in
    rw (get_or-map record_of (p ∷ parents) k p d (omega arith), get_or-map record_of (p ∷ parents) (k + 1) p d within) (inl (rising k p within))

-- the directories among the entries of one, told in one pass
pub subdirectories_told : (dir : ℕ) (listed : List Naming) → count_by (λ n. (n.dir == dir) && is_directory n.kind) listed ≡ count_by says_directory (namings.standing_in dir (map naming_of listed))
subdirectories_told dir listed =
    sym (count_filter (λ n. n.dir == dir) says_directory (map naming_of listed) ∙ count_by-map naming_of (λ n. (n.dir == dir) && says_directory n) listed)

-- where all entries stand in one directory
pub none_elsewhere : (root dir : ℕ) (listed : List Naming) → All (λ n. n.dir ≡ root) listed → dir ≢ root → namings.standing_in dir (map naming_of listed) ≡ []
none_elsewhere root dir listed all ne =
    filter_none (λ n. n.dir == dir) (map naming_of listed) (All-map (λ n. (n.dir == dir) ≡ false) naming_of listed
    (All-weaker (λ n. n.dir ≡ root) (λ n. (n.dir == dir) ≡ false) (λ n e. ne_eqb n.dir dir (λ f. ne (sym f ∙ e))) listed all))

all_here : (root : ℕ) (listed : List Naming) → All (λ n. n.dir ≡ root) listed → length (namings.standing_in root (map naming_of listed)) ≡ length listed
all_here root listed all =
    ap length (filter_each (λ n. n.dir == root) (map naming_of listed) (All-map (λ n. (n.dir == root) ≡ true) naming_of listed
    (All-weaker (λ n. n.dir ≡ root) (λ n. (n.dir == root) ≡ true) (λ n e. eq-eqb n.dir root e) listed all))) ∙ length-map listed naming_of

nil_from_length : {X : Type 0} (xs : List X) → length xs ≡ 0 → xs ≡ []
nil_from_length [] e = refl
nil_from_length (x ∷ xs) e = absurd (omega arith)

pub empty_there : (root dir : ℕ) (listed : List Naming) → All (λ n. n.dir ≡ root) listed → dir ≡ root
    → (length listed ≡ 0) ↔ (namings.standing_in dir (map naming_of listed) ≡ [])
empty_there root dir listed all same =
    rw same (λ e. nil_from_length (namings.standing_in root (map naming_of listed)) (all_here root listed all ∙ e), λ e. sym (all_here root listed all) ∙ ap length e)

pub reached_where_named : (root dir : ℕ) (listed named : List Naming) → All (λ n. n.dir ≡ root) listed → dir ≢ root → map naming_of named ≡ namings.naming dir (map naming_of listed)
    → (0 < length named) ↔ ((path : List ℕ) × namings.Leads (map naming_of listed) root path dir)
reached_where_named root dir listed named all ne viewed = (
  λ some.
      let any = some_named dir (map naming_of listed) (map naming_of named) (sym viewed) (omega (arith, length-map named naming_of)) in
      (dir ∷ [], one_step (map naming_of listed) root dir (All-map (λ n. n.dir ≡ root) naming_of listed all) any),
  λ (path, leads). elim (leads_named (map naming_of listed) root path dir leads) [
    | inl e ↦ absurd (ne (sym e))
    | inr any ↦ let some = named_some dir (map naming_of listed) any in omega (arith, length-map named naming_of, ap length viewed)
  ],
)
