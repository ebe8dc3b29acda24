-- An inode of which all rules hold breaks none.
use Rattle.std.proofs.Common.{ℕ, List, map, subst, inl, inr}
use Rattle.std.specs.Prelude.{All, IsPermutation}
use Rattle.xn_bytes.specs.Superblock.{Geometry}
use Rattle.xn_bytes.specs.Entries.{Entry}
use Rattle.xn_bytes.specs.Parents.{ParentRecord}
use Rattle.xn_meaning.specs.Manifests.{Manifest}
use Rattle.xn_rules.specs.InodeRules.{BreaksAlone}
use Rattle.xn_rules.specs.NameRules.{BreaksDirectoryLinks, BreaksDots, BreaksEntries, BreaksLinks, BreaksRecords, BreaksRule, BreaksTree, HasRightDotdot, Stands}
use Rattle.xn_rules.specs.Namings.{IsRightEntry, Naming, naming, record_for}
use Rattle.xn_verdicts.proofs.OneList.{one_list}
use Rattle.xn_verdicts.proofs.OneParents.{one_parents, parents_or_break}
use Rattle.xn_verdicts.proofs.OneRule.{holds_or_breaks}

module _ (g : Geometry) (m : Manifest) (image : List ℕ) (namings : List Naming) (ino : ℕ) (stands : Stands g m image namings ino) where
  -- ---- by itself

  none_alone : (rule block : ℕ) → BreaksAlone g image ino rule block → ⊥
  none_alone rule block (inl (directory, breaks)) =
      let stood = stands.directory directory in
      let whole = stood.whole in
      holds_or_breaks g image ino stood.entries stood.dotdot rule block whole.inode whole.holds whole.names breaks
  none_alone rule block (inr (inl (is, at, breaks))) = breaks.wrong (stands.blocks breaks.directory)
  none_alone rule block (inr (inr breaks)) =
      parents_or_break g image ino stands.records.records rule block stands.own stands.records.parents breaks

  -- ---- against the entries of the image

  links_right : BreaksLinks g image namings ino → ⊥
  links_right breaks = breaks.wrong (stands.links breaks.other)

  directory_links_right : BreaksDirectoryLinks g m image namings ino → ⊥
  directory_links_right breaks = breaks.wrong (stands.directory breaks.whole.directory).links

  entries_right : BreaksEntries g m image ino → ⊥
  entries_right breaks =
      let stood = stands.directory breaks.directory in
      let same = one_list g image ino stood.entries breaks.entries stood.dotdot breaks.dotdot stood.whole.holds breaks.holds in
      breaks.wrong (subst (λ (entries : List Entry). All (IsRightEntry g m image) entries) same.0 stood.whole.right)

  dots_right : BreaksDots g m image namings ino → ⊥
  dots_right breaks =
      let stood = stands.directory breaks.whole.directory in
      let same = one_list g image ino stood.entries breaks.entries stood.dotdot breaks.dotdot stood.whole.holds breaks.whole.holds in
      breaks.wrong (stood.dot, subst (HasRightDotdot g namings ino) same.1 stood.right_dotdot)

  place_right : BreaksTree g m image namings ino → ⊥
  place_right breaks = breaks.wrong (stands.directory breaks.whole.directory).place

  records_right : BreaksRecords g image namings ino → ⊥
  records_right breaks =
      let same = one_parents g image ino stands.records.records breaks.records stands.records.parents breaks.parents in
      let asked = map (record_for g image) (naming ino namings) in
      breaks.wrong (subst (λ (records : List ParentRecord). IsPermutation records asked) same stands.records.same)

  -- ---- at all

  pub breaks_nothing : (rule block : ℕ) → BreaksRule g m image namings ino rule block → ⊥
  breaks_nothing rule block (inl alone) = none_alone rule block alone
  breaks_nothing rule block (inr (at, inl (is, inl breaks))) = links_right breaks
  breaks_nothing rule block (inr (at, inl (is, inr breaks))) = directory_links_right breaks
  breaks_nothing rule block (inr (at, inr (inl (is, breaks)))) = entries_right breaks
  breaks_nothing rule block (inr (at, inr (inr (inl (is, breaks))))) = dots_right breaks
  breaks_nothing rule block (inr (at, inr (inr (inr (inl (is, breaks)))))) = place_right breaks
  breaks_nothing rule block (inr (at, inr (inr (inr (inr (is, breaks)))))) = records_right breaks
