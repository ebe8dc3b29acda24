-- What the bytes of an inode say of it, by its core and by what its forks map.
use Rattle.std.proofs.Common.{◌≡◌, ℕ, List, ◌++◌, Option, Some, None, refl, sym, ap, ◌∙◌, inl, inr}
use Rattle.std.specs.Prelude.{MatchOption}
use Rattle.std.proofs.lemmas.Bool.{cases_eq}
use Rattle.xn_bytes.specs.declared.kind.Kind.TheVariants.{Dir}
use Rattle.xn_bytes.specs.Numbers.{number_at}
use Rattle.xn_bytes.specs.Superblock.{Geometry}
use Rattle.xn_bytes.specs.Inode.{CoreFields, CoreHolds, HasBothForks, HasCore, inode_of}
use Rattle.xn_bytes.specs.Extents.{Run as Mapped}
use Rattle.xn_bytes.specs.AttributeForks.{HasOwnInode}
use Rattle.xn_rules.specs.InodeRules.{HasBlockCount, IsOfDirectory, attr_fork_runs, blocks_in, data_fork_runs}
use Rattle.xn_rules.specs.Sound.{AreRunsOf}
use Rattle.xn_facts.specs.declared.facts.Broken.{Broken}
use Rattle.xn_facts.specs.declared.facts.Known.{Known}
use Rattle.xn_facts.specs.Facts.{AreForkRuns, IsFirstOf, IsKnown, IsUnknown}
use Rattle.xn_facts.specs.Owned.{AreOwnRuns, BreaksCount, BreaksOwnCount, HasFields, IsKnownBy}
use Rattle.xn_facts.proofs.FirstOfTwo.{first_of_same}

-- ---- what is known

pub known_by : (g : Geometry) (inode : List ℕ) (ino : ℕ) (core : CoreFields) (known : Known) → HasCore inode ino g.meta_uuid → HasBothForks g inode ino → CoreHolds inode core → HasFields core known
    → IsKnownBy g inode ino known
known_by g inode ino core known has forks holds fields = record {
  core = has;
  forks = forks;
  kind = holds.kind ∙ ap Some (sym fields.kind);
  nlink = sym (fields.nlink ∙ holds.nlink);
  generation = sym (fields.generation ∙ holds.generation);
}

known_there : (g : Geometry) (image : List ℕ) (ino : ℕ) (known : Known) → IsKnownBy g (inode_of g image ino) ino known → IsKnown g image ino known
known_there g image ino known by = record { core = by.core; forks = by.forks; kind = by.kind; nlink = by.nlink; generation = by.generation }

pub known_over : (g : Geometry) (image : List ℕ) (ino : ℕ) (known : Option Known)
    → MatchOption known (HasCore (inode_of g image ino) ino g.meta_uuid × HasBothForks g (inode_of g image ino) ino → ⊥) (IsKnownBy g (inode_of g image ino) ino)
    → MatchOption known (IsUnknown g image ino) (IsKnown g image ino)
known_over g image ino None not = not
known_over g image ino (Some known) by = known_there g image ino known by

-- ---- runs

pub runs_over : (g : Geometry) (image : List ℕ) (ino : ℕ) (runs : List Mapped) → AreOwnRuns g (inode_of g image ino) ino runs → AreRunsOf g image ino runs
runs_over g image ino runs (inl (own, inl (is, are))) = inl (own, is, are)
runs_over g image ino runs (inl (own, inr (not, are))) = inr (inl (own, not, are))
runs_over g image ino runs (inr (not, none)) = inr (inr (not, none))

-- ---- rule 14

pub of_directory : (inode : List ℕ) (core : CoreFields) → CoreHolds inode core → core.kind ≡ Dir → IsOfDirectory inode
of_directory inode core holds is = holds.kind ∙ ap Some is

pub kind_of_directory : (inode : List ℕ) (core : CoreFields) → CoreHolds inode core → IsOfDirectory inode → core.kind ≡ Dir
kind_of_directory inode core holds is = let same = sym holds.kind ∙ is in cc

-- the runs of a directory
of_both : (inode : List ℕ) (runs : List Mapped) → IsOfDirectory inode → AreForkRuns inode runs → runs ≡ data_fork_runs inode ++ attr_fork_runs inode
of_both inode runs is (inl (same, are)) = are
of_both inode runs is (inr (not, are)) = absurd (not is)

module _ (g : Geometry) (inode : List ℕ) (ino : ℕ) (core : CoreFields) (runs : List Mapped) (own : HasOwnInode g inode ino) (holds : CoreHolds inode core) (are : AreForkRuns inode runs) where
  counted_out : (r b : ℕ) → BreaksCount core runs r b → BreaksOwnCount g inode ino r b
  counted_out r b breaks =
      let is = of_directory inode core holds breaks.2 in
      (breaks.0, breaks.1, record { own = own; directory = is; wrong = λ count. breaks.3 (holds.nblocks ∙ count ∙ ap blocks_in (sym (of_both inode runs is are))) })

  counted_in : (r b : ℕ) → BreaksOwnCount g inode ino r b → BreaksCount core runs r b
  counted_in r b breaks = (
    breaks.0,
    breaks.1,
    kind_of_directory inode core holds breaks.2.directory,
    λ count. breaks.2.wrong (sym holds.nblocks ∙ count ∙ ap blocks_in (of_both inode runs breaks.2.directory are)),
  )

  pub first_count : (broken : Option Broken) → IsFirstOf (BreaksCount core runs) broken → IsFirstOf (BreaksOwnCount g inode ino) broken
  first_count broken first = first_of_same (BreaksCount core runs) (BreaksOwnCount g inode ino) broken counted_out counted_in first

-- where one of the rules 10, 11 and 13 is broken, rule 14 isn't looked at
pub no_count : (g : Geometry) (inode : List ℕ) (ino : ℕ) → (HasOwnInode g inode ino → ⊥) → IsFirstOf (BreaksOwnCount g inode ino) None
no_count g inode ino not = λ rule block breaks. not breaks.2.own

-- and where it is looked at and not broken, it holds
pub counted : (g : Geometry) (inode : List ℕ) (ino : ℕ) → HasOwnInode g inode ino → IsFirstOf (BreaksOwnCount g inode ino) None → IsOfDirectory inode → HasBlockCount inode
counted g inode ino own none directory = elim (cases_eq (number_at 8 64 inode) (blocks_in (data_fork_runs inode ++ attr_fork_runs inode))) [
  | inl right ↦ right
  | inr wrong ↦ absurd (none 14 0 (refl, refl, record { own = own; directory = directory; wrong = wrong }))
]
