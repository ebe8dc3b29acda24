-- Why an inode is none of a directory that is read: the lists of its forks, and what a list's first bad record says.
use Rattle.std.proofs.Common.{◌≡◌, ◌≢◌, ℕ, zero, suc, List, drop, inl, inr, refl, sym, ◌∙◌}
use Rattle.xn_bytes.specs.Superblock.{Geometry}
use Rattle.xn_bytes.specs.Inode.{CoreFields, CoreHolds, HasCore, HasBothForks, local_format, extents_format, data_fork_of}
use Rattle.xn_bytes.specs.Extents.{Run, runs_in, AreRecords, IsFirstBad, run_in, end_of_run}
use Rattle.xn_bytes.specs.DirectoryForms.{HasExtentLists, IsExtentList, IsBlockForm, data_extents_of, data_runs_of}
use Rattle.xn_bytes.specs.LeafForms.{IsInBlocks}
use Rattle.xn_inode.specs.declared.fork_fault.ForkFault.{ForkFault}
use Rattle.xn_inode.specs.declared.fork_fault.ForkFault.TheVariants.{Read, Memory, Broken}
use Rattle.xn_dir.specs.Inodes.{IsDirectory}
use Rattle.xn_inode.specs.Faults.{IsRule}
use Rattle.xn_dir.specs.Faults.{IsFormFault}

-- what breaks the lists of extents breaks rule 13 of the directory
pub breaks_lists : (g : Geometry) (dir : ℕ) (inode : List ℕ) (Fact : Type 0) (fault : ForkFault) → HasCore inode dir g.meta_uuid → HasBothForks g inode dir → (HasExtentLists g inode → Fact)
    → IsRule 13 Fact fault → IsFormFault g dir inode fault
breaks_lists g dir inode Fact Read core forks part is = is
breaks_lists g dir inode Fact Memory core forks part is = is
breaks_lists g dir inode Fact (Broken rule block) core forks part is = λ _. inr (core, inr (forks, inl (is.0, is.1, λ lists. is.2 (part lists))))

-- the list of the data fork, as the core's fields say it
pub data_list : (g : Geometry) (inode : List ℕ) (core : CoreFields) (format count : ℕ) (fork : List ℕ) → CoreHolds inode core → format ≡ core.data_format → format ≡ extents_format → fork ≡ data_fork_of inode → count ≡ core.data_extents
    → HasExtentLists g inode → IsExtentList g count fork
data_list g inode core format count fork fields format_is two fork_is count_is lists =
    rw (fork_is, count_is ∙ fields.data_extents) (lists.of_data (sym fields.data_format ∙ sym format_is ∙ two))

-- a list of extents that maps more than file block 0
pub is_hashed : (inode : List ℕ) (core : CoreFields) (g : Geometry) (format count : ℕ) (fork : List ℕ) (runs : List Run) → CoreHolds inode core
    → format ≡ core.data_format → format ≡ extents_format → fork ≡ data_fork_of inode → count ≡ core.data_extents
    → IsExtentList g count fork × (runs ≡ runs_in count fork) → ((block : ℕ) → IsBlockForm runs block → ⊥) → IsInBlocks inode
is_hashed inode core g format count fork runs fields format_is two fork_is count_is list alone =
    let count_of : count ≡ data_extents_of inode = count_is ∙ fields.data_extents in
    let same : runs ≡ data_runs_of inode = list.1 ∙ rw (fork_is, count_of) refl in
    record {
      is_extents = sym fields.data_format ∙ sym format_is ∙ two;
      not_alone = λ block is. alone block (rw same is);
    }

-- the data fork of a directory is local or extents
pub other_format : (g : Geometry) (dir : ℕ) (inode : List ℕ) (core : CoreFields) (format : ℕ) → HasBothForks g inode dir → CoreHolds inode core → format ≡ core.data_format → format ≢ local_format → format ≢ extents_format → IsDirectory inode → ⊥
other_format g dir inode core format forks fields format_is not_local not_extents is =
    elim (forks.forks.directory is) [
      | inl one ↦ not_local (format_is ∙ fields.data_format ∙ one)
      | inr two ↦ not_extents (format_is ∙ fields.data_format ∙ two)
    ]
