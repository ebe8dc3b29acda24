-- What the two forks of an inode map, one behind the other.
use Rattle.std.proofs.Common.{◌≡◌, ◌⊎◌, ℕ, List, [], ◌++◌, append-nil, sym, ap, ◌∙◌, inl, inr, arith}
use Rattle.std.proofs.lemmas.Grind.{common_steps}
use Rattle.std.proofs.lemmas.Bool.Decides.{nat_tests}
use Rattle.xn_bytes.specs.declared.kind.Kind.TheVariants.{Dir}
use Rattle.xn_bytes.specs.Numbers.{number_at}
use Rattle.xn_bytes.specs.Superblock.{Geometry}
use Rattle.xn_bytes.specs.Inode.{CoreFields, CoreHolds, extents_format, attr_fork_of, data_fork_of}
use Rattle.xn_bytes.specs.DirectoryForms.{HasAttrList, HasDataList, HasForkLists, IsExtentList, attr_extents_of, data_extents_of}
use Rattle.xn_bytes.specs.Extents.{Run as Mapped, runs_in}
use Rattle.xn_rules.specs.InodeRules.{IsOfDirectory, attr_fork_runs, data_fork_runs}
use Rattle.xn_facts.specs.Facts.{AreForkRuns}
use Rattle.xn_facts.proofs.Owning.{kind_of_directory, of_directory}

-- what stands in front: a directory's data fork, which is a list where it says so, and nothing of another inode
pub record IsFront (g : Geometry) (inode : List ℕ) (runs : List Mapped) : Type 0 where
  pub list : IsOfDirectory inode → HasDataList g inode
  pub are : (IsOfDirectory inode × (runs ≡ data_fork_runs inode)) ⊎ ((IsOfDirectory inode → ⊥) × (runs ≡ []))

-- and behind it the attribute fork
pub record IsBack (g : Geometry) (inode : List ℕ) (front runs : List Mapped) : Type 0 where
  pub list : HasAttrList g inode
  pub are : runs ≡ front ++ attr_fork_runs inode

pub both_forks : (g : Geometry) (inode : List ℕ) (front runs : List Mapped) → IsFront g inode front → IsBack g inode front runs → HasForkLists g inode × AreForkRuns inode runs
both_forks g inode front runs first last = (
  record { of_data = first.list; of_attributes = last.list },
  elim first.are [
    | inl of ↦ inl (of.0, last.are ∙ ap (λ (rs : List Mapped). rs ++ attr_fork_runs inode) of.1)
    | inr of ↦ inr (of.0, last.are ∙ ap (λ (rs : List Mapped). rs ++ attr_fork_runs inode) of.1)
  ],
)

module _ (g : Geometry) (inode : List ℕ) (core : CoreFields) (holds : CoreHolds inode core) where
  -- ---- the data fork

  data_extents : core.data_extents ≡ data_extents_of inode
  data_extents = holds.data_extents

  data_runs_are : number_at 1 5 inode ≡ extents_format → data_fork_runs inode ≡ runs_in (data_extents_of inode) (data_fork_of inode)
  data_runs_are is = grind (arith, nat_tests, common_steps)

  no_data_runs : (number_at 1 5 inode ≡ extents_format → ⊥) → data_fork_runs inode ≡ []
  no_data_runs not = grind (arith, nat_tests, common_steps)

  pub data_there : (runs : List Mapped) → core.kind ≡ Dir → core.data_format ≡ 2 → IsExtentList g core.data_extents (data_fork_of inode) → runs ≡ runs_in core.data_extents (data_fork_of inode) → IsFront g inode runs
  data_there runs kind format list are =
      let is : number_at 1 5 inode ≡ extents_format = sym holds.data_format ∙ format in
      record {
        list = λ _ _. rw data_extents at list;
        are = inl (of_directory inode core holds kind, are ∙ ap (λ (n : ℕ). runs_in n (data_fork_of inode)) data_extents ∙ sym (data_runs_are is));
      }

  pub data_elsewhere : (runs : List Mapped) → core.kind ≡ Dir → (core.data_format ≡ 2 → ⊥) → runs ≡ [] → IsFront g inode runs
  data_elsewhere runs kind other none =
      let not : number_at 1 5 inode ≡ extents_format → ⊥ = λ is. other (holds.data_format ∙ is) in
      record {
        list = λ _ is. absurd (not is);
        are = inl (of_directory inode core holds kind, none ∙ sym (no_data_runs not));
      }

  pub no_directory : (runs : List Mapped) → (core.kind ≡ Dir → ⊥) → runs ≡ [] → IsFront g inode runs
  no_directory runs other none = record {
    list = λ is. absurd (other (kind_of_directory inode core holds is));
    are = inr (λ is. other (kind_of_directory inode core holds is), none);
  }

  -- ---- the attribute fork

  attr_extents : core.attr_extents ≡ attr_extents_of inode
  attr_extents = holds.attr_extents

  attr_runs_are : (number_at 1 82 inode ≡ 0 → ⊥) → number_at 1 83 inode ≡ extents_format → attr_fork_runs inode ≡ runs_in (attr_extents_of inode) (attr_fork_of inode)
  attr_runs_are there is = grind (arith, nat_tests, common_steps)

  no_attr_runs : ((number_at 1 82 inode ≡ 0 → ⊥) → number_at 1 83 inode ≡ extents_format → ⊥) → attr_fork_runs inode ≡ []
  no_attr_runs not = grind (arith, nat_tests, common_steps)

  pub attr_there : (front runs : List Mapped) → (core.fork_offset ≡ 0 → ⊥) → core.attr_format ≡ 2 → IsExtentList g core.attr_extents (attr_fork_of inode) → runs ≡ front ++ runs_in core.attr_extents (attr_fork_of inode) → IsBack g inode front runs
  attr_there front runs there format list are =
      let is : number_at 1 83 inode ≡ extents_format = sym holds.attr_format ∙ format in
      record {
        list = λ _ _. rw attr_extents at list;
        are = are ∙ ap (λ (n : ℕ). front ++ runs_in n (attr_fork_of inode)) attr_extents ∙ ap (λ (rs : List Mapped). front ++ rs) (sym (attr_runs_are (λ none. there (holds.fork_offset ∙ none)) is));
      }

  pub no_attr : (front runs : List Mapped) → ((core.fork_offset ≡ 0 → ⊥) → core.attr_format ≡ 2 → ⊥) → runs ≡ front → IsBack g inode front runs
  no_attr front runs other same =
      let not : (number_at 1 82 inode ≡ 0 → ⊥) → number_at 1 83 inode ≡ extents_format → ⊥ = λ there is. other (λ none. there (sym holds.fork_offset ∙ none)) (holds.attr_format ∙ is) in
      record {
        list = λ there is. absurd (not there is);
        are = same ∙ sym (append-nil front) ∙ ap (λ (rs : List Mapped). front ++ rs) (sym (no_attr_runs not));
      }
