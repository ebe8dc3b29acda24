-- The table of the rules between inodes: which is broken first, where those before it hold.
use Rattle.std.proofs.Common.{◌≡◌, ◌⊎◌, ℕ, ◌≤◌, List, Option, Some, None, refl, sym, subst, inl, inr, arith}
use Rattle.std.specs.Prelude.{MatchOption}
use Rattle.xn_bytes.specs.Superblock.{Geometry}
use Rattle.xn_meaning.specs.Manifests.{Manifest}
use Rattle.xn_rules.specs.Namings.{Naming}
use Rattle.xn_rules.specs.NameRules.{BreaksDots, BreaksEntries, BreaksRecords, BreaksTree}
use Rattle.xn_facts.specs.declared.facts.Broken.{Broken}
use Rattle.xn_facts.specs.Facts.{IsFirst}
use Rattle.xn_check.specs.Known.{BreaksBetween, BreaksTwelve, HoldsBetween, HoldsDots, HoldsEntries, HoldsRecords, HoldsTree, HoldsTwelve}

-- a rule of the table, which names no block
abbrev pub IsOfRule : Option Broken → ℕ → Type 0
IsOfRule found rule = MatchOption found ⊥ (λ broken. (broken.rule ≡ rule) × (broken.block ≡ 0))

-- ---- the least of five that may be broken

module _ (Links Entries Dots Place Records : Type 0) where
  abbrev Between : ℕ → ℕ → Type 0
  Between rule block =
      (block ≡ 0)
      × (((rule ≡ 12) × Links) ⊎ ((rule ≡ 21) × Entries) ⊎ ((rule ≡ 22) × Dots) ⊎ ((rule ≡ 23) × Place) ⊎ ((rule ≡ 27) × Records))

  least_of : (least rule block : ℕ) → (Links → least ≤ 12) → (Entries → least ≤ 21) → (Dots → least ≤ 22) → (Place → least ≤ 23)
      → (Records → least ≤ 27) → Between rule block → least ≤ rule
  least_of least rule block a b c d e (none, inl (is, breaks)) = let low = a breaks in omega (arith, is, low)
  least_of least rule block a b c d e (none, inr (inl (is, breaks))) = let low = b breaks in omega (arith, is, low)
  least_of least rule block a b c d e (none, inr (inr (inl (is, breaks)))) = let low = c breaks in omega (arith, is, low)
  least_of least rule block a b c d e (none, inr (inr (inr (inl (is, breaks))))) = let low = d breaks in omega (arith, is, low)
  least_of least rule block a b c d e (none, inr (inr (inr (inr (is, breaks))))) = let low = e breaks in omega (arith, is, low)

  none_of : (rule block : ℕ) → (Links → ⊥) → (Entries → ⊥) → (Dots → ⊥) → (Place → ⊥) → (Records → ⊥) → Between rule block → ⊥
  none_of rule block links entries dots place records (none, inl (is, breaks)) = links breaks
  none_of rule block links entries dots place records (none, inr (inl (is, breaks))) = entries breaks
  none_of rule block links entries dots place records (none, inr (inr (inl (is, breaks)))) = dots breaks
  none_of rule block links entries dots place records (none, inr (inr (inr (inl (is, breaks))))) = place breaks
  none_of rule block links entries dots place records (none, inr (inr (inr (inr (is, breaks))))) = records breaks

-- ---- of an inode

module _ (g : Geometry) (m : Manifest) (image : List ℕ) (namings : List Naming) (ino : ℕ) where
  abbrev LinksBreak : Type 0
  LinksBreak = BreaksTwelve g m image namings ino

  abbrev EntriesBreak : Type 0
  EntriesBreak = BreaksEntries g m image ino

  abbrev DotsBreak : Type 0
  DotsBreak = BreaksDots g m image namings ino

  abbrev PlaceBreaks : Type 0
  PlaceBreaks = BreaksTree g m image namings ino

  abbrev RecordsBreak : Type 0
  RecordsBreak = BreaksRecords g image namings ino

  -- a rule that holds is not broken
  links_hold : HoldsTwelve g m image namings ino → LinksBreak → ⊥
  links_hold holds (inl breaks) = breaks.wrong (holds.other breaks.core breaks.forks breaks.other)
  links_hold holds (inr breaks) = breaks.wrong (holds.directory breaks.entries breaks.dotdot breaks.whole)

  entries_hold : HoldsEntries g m image ino → EntriesBreak → ⊥
  entries_hold holds breaks =
      breaks.wrong (holds breaks.entries breaks.dotdot (record {
        directory = breaks.directory;
        inode = breaks.inode;
        holds = breaks.holds;
        names = breaks.names;
      }))

  dots_hold : HoldsDots g m image namings ino → DotsBreak → ⊥
  dots_hold holds breaks = breaks.wrong (holds breaks.entries breaks.dotdot breaks.whole)

  place_holds : HoldsTree g m image namings ino → PlaceBreaks → ⊥
  place_holds holds breaks = breaks.wrong (holds breaks.entries breaks.dotdot breaks.whole)

  records_hold : HoldsRecords g image namings ino → RecordsBreak → ⊥
  records_hold holds breaks = breaks.wrong (holds breaks.records breaks.own breaks.parents)

  abbrev BreaksOne : ℕ → ℕ → Type 0
  BreaksOne rule block = BreaksBetween g m image namings ino rule block

  pub none_between : HoldsBetween g m image namings ino → (rule block : ℕ) → BreaksOne rule block → ⊥
  none_between holds rule block =
      none_of LinksBreak EntriesBreak DotsBreak PlaceBreaks RecordsBreak rule block
      (links_hold holds.links) (entries_hold holds.entries) (dots_hold holds.dots) (place_holds holds.place) (records_hold holds.records)

  least : (number rule block : ℕ) → (LinksBreak → number ≤ 12) → (EntriesBreak → number ≤ 21) → (DotsBreak → number ≤ 22)
      → (PlaceBreaks → number ≤ 23) → (RecordsBreak → number ≤ 27) → BreaksOne rule block → number ≤ rule
  least number rule block = least_of LinksBreak EntriesBreak DotsBreak PlaceBreaks RecordsBreak number rule block

  -- what is told: all hold, or one is the first that is broken
  abbrev pub IsTold : Option Broken → Type 0
  IsTold found = MatchOption found (HoldsBetween g m image namings ino) (IsFirst (BreaksBetween g m image namings ino))

  first_at : (found : Option Broken) (number : ℕ) → IsOfRule found number → BreaksOne number 0
      → ((rule block : ℕ) → BreaksOne rule block → number ≤ rule) → IsTold found
  first_at None number said breaks low = absurd said
  first_at (Some broken) number said breaks low =
      let of_rule : BreaksOne broken.rule 0 = subst (λ (rule : ℕ). BreaksOne rule 0) (sym said.0) breaks in (
        subst (λ (block : ℕ). BreaksOne broken.rule block) (sym said.1) of_rule,
        λ rule block other. let from = low rule block other in omega (arith, said.0, from),
      )

  pub links_first : (found : Option Broken) → IsOfRule found 12 → LinksBreak → IsTold found
  links_first found said breaks =
      first_at found 12 said (refl, inl (refl, breaks))
      (λ rule block. least 12 rule block (λ _. omega arith) (λ _. omega arith) (λ _. omega arith) (λ _. omega arith) (λ _. omega arith))

  pub entries_first : (found : Option Broken) → IsOfRule found 21 → HoldsTwelve g m image namings ino → EntriesBreak → IsTold found
  entries_first found said links breaks =
      first_at found 21 said (refl, inr (inl (refl, breaks)))
      (λ rule block.
      least 21 rule block (λ b. absurd (links_hold links b)) (λ _. omega arith) (λ _. omega arith) (λ _. omega arith) (λ _. omega arith))

  pub dots_first : (found : Option Broken) → IsOfRule found 22 → HoldsTwelve g m image namings ino → HoldsEntries g m image ino → DotsBreak
      → IsTold found
  dots_first found said links entries breaks =
      first_at found 22 said (refl, inr (inr (inl (refl, breaks))))
      (λ rule block.
      least 22 rule block (λ b. absurd (links_hold links b)) (λ b. absurd (entries_hold entries b))
      (λ _. omega arith) (λ _. omega arith) (λ _. omega arith))

  pub place_first : (found : Option Broken) → IsOfRule found 23 → HoldsTwelve g m image namings ino → HoldsEntries g m image ino
      → HoldsDots g m image namings ino → PlaceBreaks → IsTold found
  place_first found said links entries dots breaks =
      first_at found 23 said (refl, inr (inr (inr (inl (refl, breaks)))))
      (λ rule block.
      least 23 rule block (λ b. absurd (links_hold links b)) (λ b. absurd (entries_hold entries b)) (λ b. absurd (dots_hold dots b))
      (λ _. omega arith) (λ _. omega arith))

  pub records_first : (found : Option Broken) → IsOfRule found 27 → HoldsTwelve g m image namings ino → HoldsEntries g m image ino
      → HoldsDots g m image namings ino → HoldsTree g m image namings ino → RecordsBreak → IsTold found
  records_first found said links entries dots place breaks =
      first_at found 27 said (refl, inr (inr (inr (inr (refl, breaks)))))
      (λ rule block.
      least 27 rule block (λ b. absurd (links_hold links b)) (λ b. absurd (entries_hold entries b)) (λ b. absurd (dots_hold dots b))
      (λ b. absurd (place_holds place b)) (λ _. omega arith))
