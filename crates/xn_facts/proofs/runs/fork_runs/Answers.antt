use Rattle.std.proofs.Common.{map, refl, sym, ◌∙◌}
use Rattle.xn_bytes.proofs.TestLemmas.{holds, fails}
use Rattle.xn_facts.specs.Facts.{mapped_of}
use Rattle.xn_facts.proofs.Forks.{both_forks, data_there, data_elsewhere, no_directory, attr_there, no_attr}
use Rattle.xn_facts.proofs.runs.fork_runs.Goals.{then-is_of_directory+then-data_format-eq-EXTENTS_FORMAT+in_ok-add_fork, else-is_of_directory, else-is_of_directory-via-then-is_of_directory+else-data_format-eq-EXTENTS_FORMAT, else-is_of_directory-via-else-is_of_directory}
use Rattle.xn_facts.proofs.runs.fork_runs.Goals.{then-forkoff-ne0+then-attr_format-eq-EXTENTS_FORMAT+in_ok-add_fork-2, else-forkoff-ne0, else-forkoff-ne0-via-then-forkoff-ne0+else-attr_format-eq-EXTENTS_FORMAT, else-forkoff-ne0-via-else-forkoff-ne0}
use Rattle.xn_facts.proofs.runs.fork_runs.Goals as goal

pub returns : goal.returns
returns c =
    both_forks c.args.geometry.now c.args.inode.now (map mapped_of c.if-is_of_directory.runs.items) (map mapped_of c.if-forkoff-ne0.runs.items)
    (elim c.if-is_of_directory.branch [
      | then-is_of_directory+then-data_format-eq-EXTENTS_FORMAT+in_ok-add_fork w ↦
          let list = rw (w.data_extents.ensures, w.data_fork.ensures, c.new-runs.ensures.items) at w.in_ok-add_fork.ensures in
          data_there c.args.geometry.now c.args.inode.now c.args.core.now c.requires.core (map mapped_of c.if-is_of_directory.runs.items)
          (holds w.if-is_of_directory.ensures) (sym w.data_format.ensures ∙ w.if-data_format-eq-EXTENTS_FORMAT.true) list.0 (rw w.runs-is list.1)
      | else-is_of_directory w ↦ elim w.else-is_of_directory.branch [
        | else-is_of_directory-via-then-is_of_directory+else-data_format-eq-EXTENTS_FORMAT v ↦
            data_elsewhere c.args.geometry.now c.args.inode.now c.args.core.now c.requires.core (map mapped_of c.if-is_of_directory.runs.items)
            (holds (v.if-is_of_directory.ensures)) (λ is. v.if-data_format-eq-EXTENTS_FORMAT.false (v.data_format.ensures ∙ is)) (rw w.runs-is (rw c.new-runs.ensures.items refl))
        | else-is_of_directory-via-else-is_of_directory v ↦
            no_directory c.args.geometry.now c.args.inode.now c.args.core.now c.requires.core (map mapped_of c.if-is_of_directory.runs.items)
            (fails (v.if-is_of_directory.ensures)) (rw w.runs-is (rw c.new-runs.ensures.items refl))
      ]
    ])
    (elim c.if-forkoff-ne0.branch [
      | then-forkoff-ne0+then-attr_format-eq-EXTENTS_FORMAT+in_ok-add_fork-2 w ↦
          let list = rw (w.attr_extents.ensures, w.attr_fork.ensures) at w.in_ok-add_fork-2.ensures in
          attr_there c.args.geometry.now c.args.inode.now c.args.core.now c.requires.core (map mapped_of c.if-is_of_directory.runs.items) (map mapped_of c.if-forkoff-ne0.runs.items)
          (λ none. w.if-forkoff-ne0.true (c.forkoff.ensures ∙ none)) (sym w.attr_format.ensures ∙ w.if-attr_format-eq-EXTENTS_FORMAT.true) list.0 (rw w.runs-is list.1)
      | else-forkoff-ne0 w ↦ elim w.else-forkoff-ne0.branch [
        | else-forkoff-ne0-via-then-forkoff-ne0+else-attr_format-eq-EXTENTS_FORMAT v ↦
            no_attr c.args.geometry.now c.args.inode.now c.args.core.now c.requires.core (map mapped_of c.if-is_of_directory.runs.items) (map mapped_of c.if-forkoff-ne0.runs.items)
            (λ _ is. v.if-attr_format-eq-EXTENTS_FORMAT.false (v.attr_format.ensures ∙ is)) (rw w.runs-is refl)
        | else-forkoff-ne0-via-else-forkoff-ne0 v ↦
            no_attr c.args.geometry.now c.args.inode.now c.args.core.now c.requires.core (map mapped_of c.if-is_of_directory.runs.items) (map mapped_of c.if-forkoff-ne0.runs.items)
            (λ there is. there (sym c.forkoff.ensures ∙ v.if-forkoff-ne0.false)) (rw w.runs-is refl)
      ]
    ])
