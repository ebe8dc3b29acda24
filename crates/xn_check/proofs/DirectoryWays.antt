-- Ways over entries to a directory go over directories alone.
use Rattle.std.proofs.Common.{◌≡◌, ℕ, List, [], ◌∷◌, true, ap, sym, subst, ◌∙◌}
use Rattle.std.specs.Prelude.{All, Any, Some, filter}
use Rattle.std.proofs.lemmas.List.Elements.{All-contains}
use Rattle.xn_bytes.specs.declared.kind.Kind.TheVariants.{Dir}
use Rattle.xn_bytes.specs.Entries.{Entry}
use Rattle.xn_bytes.specs.Superblock.{Geometry}
use Rattle.xn_meaning.specs.Manifests.{Manifest}
use Rattle.xn_rules.specs.Namings.{IsWhole, Leads, Naming}
use Rattle.xn_rules.specs.NameRules.{is_directory, says_directory}
use Rattle.xn_names.proofs.Moved.{contained_in_filter, passes_in_filter}
use Rattle.xn_check.specs.Known.{StandsWhole}

-- a way over entries that are directories is one over entries
pub over_all : (namings : List Naming) (from : ℕ) (path : List ℕ) (to : ℕ) → Leads (filter says_directory namings) from path to → Leads namings from path to
over_all namings from [] to same = same
over_all namings from (next ∷ path) to ((k, n, lt, same, step), rest) =
    let there = contained_in_filter says_directory namings n (k, lt, same) in
    ((there.1.0, n, there.1.1, there.1.2, step), over_all namings next path to rest)

module _ (g : Geometry) (m : Manifest) (image : List ℕ) (namings : List Naming) (standing : All (StandsWhole g m image) namings) where
  abbrev IsWholeDirectory : ℕ → Type 0
  IsWholeDirectory dir = (entries : List Entry) × (dotdot : ℕ) × IsWhole g m image dir entries dotdot

  -- an entry that names a whole directory says so
  says_it : (n : Naming) → StandsWhole g m image n → IsWholeDirectory n.ino → says_directory n ≡ true
  says_it n stands (entries, dotdot, whole) =
      let named : Some n.kind ≡ Some Dir = sym (stands.kind whole.inode.core whole.inode.forks) ∙ whole.directory in
      let kind : n.kind ≡ Dir = cc in
      ap is_directory kind

  -- a way to a whole directory begins at one
  begins : (from : ℕ) (path : List ℕ) (to : ℕ) → IsWholeDirectory to → Leads namings from path to → IsWholeDirectory from
  begins from [] to whole same = subst IsWholeDirectory (sym same) whole
  begins from (next ∷ path) to whole ((k, n, lt, same, step), rest) =
      let stands : StandsWhole g m image n = All-contains (StandsWhole g m image) namings n standing (k, lt, same) in
      subst IsWholeDirectory step.0 (stands.entries, stands.dotdot, stands.whole)

  kept : (from next : ℕ) → IsWholeDirectory next → Any (λ n. (n.dir ≡ from) × (n.ino ≡ next)) namings → Any (λ n. (n.dir ≡ from) × (n.ino ≡ next)) (filter says_directory namings)
  kept from next whole (k, n, lt, same, step) =
      let stands : StandsWhole g m image n = All-contains (StandsWhole g m image) namings n standing (k, lt, same) in
      let there = passes_in_filter says_directory namings n (says_it n stands (subst IsWholeDirectory (sym step.1) whole)) (k, lt, same) in
      (there.0, n, there.1, there.2, step)

  pub over_directories : (from : ℕ) (path : List ℕ) (to : ℕ) → IsWholeDirectory to → Leads namings from path to → Leads (filter says_directory namings) from path to
  over_directories from [] to whole same = same
  over_directories from (next ∷ path) to whole (some, rest) =
      (kept from next (begins next path to whole rest) some, over_directories next path to whole rest)
