-- An inode of which each rule holds where it is looked at stands; and one that stands breaks none.
use Rattle.std.proofs.Common.{◌≡◌, ℕ, List, Option, Some, None, map, refl, sym, subst, ◌∙◌, inl, inr}
use Rattle.std.specs.Prelude.{All, IsPermutation, MatchOption}
use Rattle.xn_bytes.specs.Superblock.{Geometry}
use Rattle.xn_bytes.specs.Inode.{inode_of}
use Rattle.xn_bytes.specs.Entries.{Entry}
use Rattle.xn_bytes.specs.DirectoryHolds.{DirHolds}
use Rattle.xn_bytes.specs.Parents.{ParentRecord}
use Rattle.xn_meaning.specs.Manifests.{Manifest}
use Rattle.xn_rules.specs.InodeRules.{BreaksAlone, IsOfDirectory}
use Rattle.xn_rules.specs.Namings.{IsRightEntry, IsWhole, Naming, naming, record_for}
use Rattle.xn_rules.specs.NameRules.{BreaksRule, HasDot, HasRightDotdot, Stands, StandsAsDirectory}
use Rattle.xn_verdicts.proofs.OneList.{one_list}
use Rattle.xn_verdicts.proofs.OneParents.{one_parents, parents_or_break}
use Rattle.xn_verdicts.proofs.OneRule.{holds_or_breaks}
use Rattle.xn_facts.specs.declared.facts.Broken.{Broken}
use Rattle.xn_facts.specs.declared.facts.Node.{Node}
use Rattle.xn_facts.specs.Facts.{IsFirst, IsFirstOf, IsHeld, NodeHolds, StandsAlone}
use Rattle.xn_facts.specs.Verdicts.{lesser_of}
use Rattle.xn_facts.proofs.FirstOfTwo.{first_of_both, none_of_both}
use Rattle.xn_check.specs.Known.{BreaksBetween, HoldsBetween}
use Rattle.xn_check.proofs.BetweenLemmas.{IsTold, none_between}

module _ (g : Geometry) (m : Manifest) (image : List ℕ) (namings : List Naming) (ino : ℕ) where
  -- ---- from the rules on the inode alone and those between inodes

  whole_by : StandsAlone g image ino → HoldsBetween g m image namings ino → IsOfDirectory (inode_of g image ino)
      → StandsAsDirectory g m image namings ino
  whole_by alone between is =
      let held = alone.directory is in
      let whole : IsWhole g m image ino held.0 held.1 = record {
        directory = held.2.directory;
        inode = held.2.inode;
        holds = held.2.holds;
        names = held.2.names;
        right = between.entries held.0 held.1 held.2;
      } in
      let dots = between.dots held.0 held.1 whole in
      record {
        entries = held.0;
        dotdot = held.1;
        whole = whole;
        links = between.links.directory held.0 held.1 whole;
        dot = dots.0;
        right_dotdot = dots.1;
        place = between.place held.0 held.1 whole;
      }

  stands_by : StandsAlone g image ino → HoldsBetween g m image namings ino → Stands g m image namings ino
  stands_by alone between = record {
    own = alone.own;
    blocks = alone.blocks;
    directory = whole_by alone between;
    links = between.links.other alone.own.core alone.own.forks;
    records = record {
      records = alone.parents.0;
      parents = alone.parents.1;
      same = between.records alone.parents.0 alone.own alone.parents.1;
    };
  }

  -- ---- and back

  one_own : (stands : StandsAsDirectory g m image namings ino) (entries : List Entry) (dotdot : ℕ) → DirHolds g image ino entries dotdot
      → (stands.entries ≡ entries) × (stands.dotdot ≡ dotdot)
  one_own stands entries dotdot holds = one_list g image ino stands.entries entries stands.dotdot dotdot stands.whole.holds holds

  right_entries : (stands : StandsAsDirectory g m image namings ino) (entries : List Entry) (dotdot : ℕ)
      → IsHeld g image ino entries dotdot → All (IsRightEntry g m image) entries
  right_entries stands entries dotdot held =
      subst (λ (es : List Entry). All (IsRightEntry g m image) es) (one_own stands entries dotdot held.holds).0 stands.whole.right

  right_dots : (stands : StandsAsDirectory g m image namings ino) (entries : List Entry) (dotdot : ℕ)
      → IsWhole g m image ino entries dotdot → HasDot g image ino × HasRightDotdot g namings ino dotdot
  right_dots stands entries dotdot whole =
      (stands.dot, subst (HasRightDotdot g namings ino) (one_own stands entries dotdot whole.holds).1 stands.right_dotdot)

  between_by : Stands g m image namings ino → HoldsBetween g m image namings ino
  between_by stands = record {
    links = record { other = λ core forks. stands.links; directory = λ entries dotdot whole. (stands.directory whole.directory).links };
    entries = λ entries dotdot held. right_entries (stands.directory held.directory) entries dotdot held;
    dots = λ entries dotdot whole. right_dots (stands.directory whole.directory) entries dotdot whole;
    place = λ entries dotdot whole. (stands.directory whole.directory).place;
    records = λ records own parents.
        subst (λ (rs : List ParentRecord). IsPermutation rs (map (record_for g image) (naming ino namings)))
        (one_parents g image ino stands.records.records records stands.records.parents parents) stands.records.same;
  }

  none_alone : Stands g m image namings ino → (rule block : ℕ) → BreaksAlone g image ino rule block → ⊥
  none_alone stands rule block (inl (is, breaks)) =
      let own = stands.directory is in
      holds_or_breaks g image ino own.entries own.dotdot rule block own.whole.inode own.whole.holds own.whole.names breaks
  none_alone stands rule block (inr (inl (is, none, breaks))) = breaks.wrong (stands.blocks breaks.directory)
  none_alone stands rule block (inr (inr breaks)) =
      parents_or_break g image ino stands.records.records rule block stands.own stands.records.parents breaks

  pub stands_or_breaks : (rule block : ℕ) → Stands g m image namings ino → BreaksRule g m image namings ino rule block → ⊥
  stands_or_breaks rule block stands (inl breaks) = none_alone stands rule block breaks
  stands_or_breaks rule block stands (inr breaks) = none_between g m image namings ino (between_by stands) rule block breaks

  -- ---- what is told of the rules between inodes

  first_between : (between : Option Broken) → IsTold g m image namings ino between → IsFirstOf (BreaksBetween g m image namings ino) between
  first_between None holds = none_between g m image namings ino holds
  first_between (Some broken) first = first

  stands_told : (between : Option Broken) → between ≡ None → StandsAlone g image ino → IsTold g m image namings ino between
      → Stands g m image namings ino
  stands_told None none alone holds = stands_by alone holds
  stands_told (Some broken) none alone first = absurd cc

-- ---- and so of all, by the node

first_told : (Holds : Type 0) (Breaks : ℕ → ℕ → Type 0) (found : Option Broken) → (found ≡ None → Holds) → IsFirstOf Breaks found
    → MatchOption found Holds (IsFirst Breaks)
first_told Holds Breaks None holds first = holds refl
first_told Holds Breaks (Some broken) holds first = first

pub rule_told : (g : Geometry) (m : Manifest) (image : List ℕ) (namings : List Naming) (node : Node) (between found : Option Broken)
    → found ≡ lesser_of node.broken between → NodeHolds g image node → IsTold g m image namings node.ino between
    → MatchOption found (Stands g m image namings node.ino) (IsFirst (BreaksRule g m image namings node.ino))
rule_told g m image namings node between found is holds told =
    first_told (Stands g m image namings node.ino) (BreaksRule g m image namings node.ino) found
    (λ none.
    let both = none_of_both node.broken between (sym is ∙ none) in
    stands_told g m image namings node.ino between both.1 (holds.stands both.0) told)
    (subst (λ (o : Option Broken). IsFirstOf (BreaksRule g m image namings node.ino) o) (sym is)
    (first_of_both (BreaksAlone g image node.ino) (BreaksBetween g m image namings node.ino) node.broken between holds.broken
    (first_between g m image namings node.ino between told)))
