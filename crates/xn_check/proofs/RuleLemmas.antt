-- The rules between inodes, of a directory of which it is known whether it is whole, and of what is no directory.
use Rattle.std.proofs.Common.{◌≡◌, ◌↔◌, ℕ, Bool, true, false, List, Option, Some, length, refl, sym, subst, ◌∙◌, inl, inr}
use Rattle.std.specs.Prelude.{All, IsTrue}
use Rattle.std.specs.Bool.{MatchBool}
use Rattle.std.proofs.lemmas.Bool.{false≢true, true≢false}
use Rattle.xn_bytes.specs.declared.kind.Kind.TheVariants.{Dir}
use Rattle.xn_bytes.specs.Numbers.{number_at}
use Rattle.xn_bytes.specs.Superblock.{Geometry}
use Rattle.xn_bytes.specs.Inode.{inode_of}
use Rattle.xn_bytes.specs.Entries.{Entry}
use Rattle.xn_meaning.specs.Manifests.{Manifest}
use Rattle.xn_rules.specs.InodeRules.{IsOfDirectory}
use Rattle.xn_rules.specs.Namings.{IsRightEntry, IsWhole, Naming, naming}
use Rattle.xn_rules.specs.NameRules.{BreaksDots, BreaksEntries, BreaksTree, HasDirectoryLinks, HasPlaceInTree, HasRightDotdot}
use Rattle.xn_verdicts.proofs.OneList.{one_list}
use Rattle.xn_facts.specs.declared.facts.Known.{Known}
use Rattle.xn_facts.specs.declared.facts.Node.{Node}
use Rattle.xn_facts.specs.Facts.{IsKnown, NodeHolds}
use Rattle.xn_census.specs.declared.sorted_out.Whole.{Whole}
use Rattle.xn_check.specs.Known.{BreaksTwelve, HoldsDots, HoldsEntries, HoldsTree, HoldsTwelve, IsNoWhole, IsRightWhole, WholeIs}

-- ---- what an answer tells

-- where a fact is what a rule says and its absence is the breach, a test of the fact tells whether the rule holds or is broken
pub told_by : (answer : Bool) (Tested Holds Breaks : Type 0) → (IsTrue answer ↔ Tested) → (Tested → Holds) → ((Tested → ⊥) → Breaks)
    → MatchBool answer Holds Breaks
told_by true Tested Holds Breaks tells right wrong = right (tells.0 refl)
told_by false Tested Holds Breaks tells right wrong = wrong (λ tested. false≢true (tells.1 tested))

pub told_no : (answer : Bool) (Holds Breaks : Type 0) → answer ≡ false → Breaks → MatchBool answer Holds Breaks
told_no true Holds Breaks is breaks = absurd (true≢false is)
told_no false Holds Breaks is breaks = breaks

-- ---- of a whole directory

module _ (g : Geometry) (m : Manifest) (image : List ℕ) (namings : List Naming) (whole : Whole) where
  -- it has no other dotdot
  one_dotdot : IsRightWhole g m image namings whole → (entries : List Entry) (dotdot : ℕ) → IsWhole g m image whole.dir entries dotdot → whole.dotdot ≡ dotdot
  one_dotdot known entries dotdot is = (one_list g image whole.dir known.entries entries whole.dotdot dotdot known.holds.holds is.holds).1

  -- rule 21
  entries_right : IsRightWhole g m image namings whole → HoldsEntries g m image whole.dir
  entries_right known entries dotdot held =
      let same = one_list g image whole.dir known.entries entries whole.dotdot dotdot known.holds.holds held.holds in
      subst (λ (entries : List Entry). All (IsRightEntry g m image) entries) same.0 known.holds.right

  entries_told : (answer : Bool) → (answer ≡ true → IsRightWhole g m image namings whole) → (answer ≡ false → BreaksEntries g m image whole.dir × IsNoWhole g m image whole.dir)
      → MatchBool answer (HoldsEntries g m image whole.dir) (BreaksEntries g m image whole.dir)
  entries_told true right wrong = entries_right (right refl)
  entries_told false right wrong = (wrong refl).0

  -- rule 22
  pub dots_wrong : (dir : ℕ) → (whole.dir ≡ dir) × IsRightWhole g m image namings whole → whole.has_dot ≡ false → BreaksDots g m image namings dir
  dots_wrong dir (same, known) no_dot =
      subst (λ (d : ℕ). BreaksDots g m image namings d) same (record {
        entries = known.entries;
        dotdot = whole.dotdot;
        whole = known.holds;
        wrong = λ both. true≢false (sym (known.dot.1 both.0) ∙ no_dot);
      })

  pub dots_told : (dir : ℕ) (answer : Bool) → (whole.dir ≡ dir) × IsRightWhole g m image namings whole → whole.has_dot ≡ true → (IsTrue answer ↔ HasRightDotdot g namings whole.dir whole.dotdot)
      → MatchBool answer (HoldsDots g m image namings dir) (BreaksDots g m image namings dir)
  dots_told dir answer (same, known) dot tells =
      subst (λ (d : ℕ). MatchBool answer (HoldsDots g m image namings d) (BreaksDots g m image namings d)) same
      (told_by answer (HasRightDotdot g namings whole.dir whole.dotdot) (HoldsDots g m image namings whole.dir) (BreaksDots g m image namings whole.dir) tells
      (λ right entries dotdot is. (known.dot.0 dot, subst (HasRightDotdot g namings whole.dir) (one_dotdot known entries dotdot is) right))
      (λ wrong. record { entries = known.entries; dotdot = whole.dotdot; whole = known.holds; wrong = λ both. wrong both.1 }))

  -- rule 23
  pub place_told : (dir : ℕ) (answer : Bool) → (whole.dir ≡ dir) × IsRightWhole g m image namings whole → (IsTrue answer ↔ HasPlaceInTree g namings whole.dir)
      → MatchBool answer (HoldsTree g m image namings dir) (BreaksTree g m image namings dir)
  place_told dir answer (same, known) tells =
      subst (λ (d : ℕ). MatchBool answer (HoldsTree g m image namings d) (BreaksTree g m image namings d)) same
      (told_by answer (HasPlaceInTree g namings whole.dir) (HoldsTree g m image namings whole.dir) (BreaksTree g m image namings whole.dir) tells
      (λ right entries dotdot is. right)
      (λ wrong. record { entries = known.entries; dotdot = whole.dotdot; whole = known.holds; wrong = wrong }))

pub entries_tell : (g : Geometry) (m : Manifest) (image : List ℕ) (namings : List Naming) (dir : ℕ) (found : Option Whole) (whole : Whole) → found ≡ Some whole
    → WholeIs g m image namings dir found → MatchBool whole.is_right (HoldsEntries g m image dir) (BreaksEntries g m image dir)
entries_tell g m image namings dir found whole is known =
    let of = subst (λ (o : Option Whole). WholeIs g m image namings dir o) is known in
    subst (λ (d : ℕ). MatchBool whole.is_right (HoldsEntries g m image d) (BreaksEntries g m image d)) of.0
    (entries_told g m image namings whole whole.is_right of.1.right of.1.wrong)

-- ---- rule 12

-- what the node says of its inode, where rules 10 and 11 hold
pub node_known : (g : Geometry) (image : List ℕ) (node : Node) (known : Known) → node.known ≡ Some known → NodeHolds g image node → IsKnown g image node.ino known
node_known g image node known is holds = let of = rw is at holds.known in of

module _ (g : Geometry) (m : Manifest) (image : List ℕ) (namings : List Naming) (ino : ℕ) where
  -- a directory that isn't whole
  pub links_of_none : IsOfDirectory (inode_of g image ino) → IsNoWhole g m image ino → HoldsTwelve g m image namings ino
  links_of_none directory none = record {
    other = λ core forks not. absurd (not directory);
    directory = λ entries dotdot whole. absurd (none entries dotdot whole);
  }

  -- what is no directory
  other_right : (IsOfDirectory (inode_of g image ino) → ⊥) → number_at 4 16 (inode_of g image ino) ≡ length (naming ino namings) → HoldsTwelve g m image namings ino
  other_right other right = record { other = λ core forks not. right; directory = λ entries dotdot whole. absurd (other whole.directory) }

  pub links_told : (known : Known) (answer : Bool) → IsKnown g image ino known → (known.kind ≡ Dir → ⊥) → (IsTrue answer ↔ (known.nlink ≡ length (naming ino namings)))
      → MatchBool answer (HoldsTwelve g m image namings ino) (BreaksTwelve g m image namings ino)
  links_told known answer is not_directory tells =
      let other : IsOfDirectory (inode_of g image ino) → ⊥ = λ directory. not_directory (let e = sym is.kind ∙ directory in cc) in
      told_by answer (known.nlink ≡ length (naming ino namings)) (HoldsTwelve g m image namings ino) (BreaksTwelve g m image namings ino) tells
      (λ right. other_right other (is.nlink ∙ right))
      (λ wrong. inl (record { core = is.core; forks = is.forks; other = other; wrong = λ right. wrong (sym is.nlink ∙ right) }))

  -- a whole directory
  directory_right : IsOfDirectory (inode_of g image ino) → HasDirectoryLinks g namings ino (number_at 4 16 (inode_of g image ino)) → HoldsTwelve g m image namings ino
  directory_right directory right = record { other = λ core forks not. absurd (not directory); directory = λ entries dotdot whole. right }

  pub directory_links_told : (known : Known) (whole : Whole) (answer : Bool) → IsKnown g image ino known → (whole.dir ≡ ino) × IsRightWhole g m image namings whole
      → (IsTrue answer ↔ HasDirectoryLinks g namings ino known.nlink) → MatchBool answer (HoldsTwelve g m image namings ino) (BreaksTwelve g m image namings ino)
  directory_links_told known whole answer is (same, of) tells =
      let holds : IsWhole g m image ino of.entries whole.dotdot = subst (λ (d : ℕ). IsWhole g m image d of.entries whole.dotdot) same of.holds in
      told_by answer (HasDirectoryLinks g namings ino known.nlink) (HoldsTwelve g m image namings ino) (BreaksTwelve g m image namings ino) tells
      (λ right. directory_right holds.directory (subst (HasDirectoryLinks g namings ino) (sym is.nlink) right))
      (λ wrong. inr (record { entries = of.entries; dotdot = whole.dotdot; whole = holds; wrong = λ right. wrong (subst (HasDirectoryLinks g namings ino) is.nlink right) }))
