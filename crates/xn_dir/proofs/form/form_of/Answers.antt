use Rattle.std.proofs.lemmas.Result.{err_from_is_err_and}
use Rattle.xn_dir.proofs.InodeFaults.{breaks_lists, is_hashed, other_format}
use Rattle.xn_dir.proofs.form.form_of.Goals as goal

pub returns-in_err-check_attr_list-clause-fault :
    goal.returns-in_err-check_attr_list-clause-fault
returns-in_err-check_attr_list-clause-fault c =
    let p = err_from_is_err_and c.from_residual-in_err-check_attr_list.result c.from_residual-in_err-check_attr_list.ensures.1 in
    let core = c.in_ok-core.ensures in
    rw (p.1, p.2) (breaks_lists c.args.geometry.now c.args.dir c.args.inode.now _ _ core.0 core.1 (λ lists. lists.of_attributes) c.in_err-check_attr_list.ensures)

pub returns-then-format-ne-EXTENTS_FORMAT-clause-fault :
    goal.returns-then-format-ne-EXTENTS_FORMAT-clause-fault
returns-then-format-ne-EXTENTS_FORMAT-clause-fault c =
    let core = c.in_ok-core.ensures in
    rw c.of_rule.ensures (λ is. absurd (other_format c.args.geometry.now c.args.dir c.args.inode.now c.in_ok-core.core c.data_format-format.result core.1 core.2 c.data_format-format.ensures c.if-format-eq-LOCAL_FORMAT.false c.if-format-ne-EXTENTS_FORMAT.true is))

pub returns-clause-form : goal.returns-clause-form
returns-clause-form c =
    let core = c.in_ok-core.ensures in
    is_hashed c.args.inode.now c.in_ok-core.core c.args.geometry.now c.data_format-format.result c.data_extents.result c.data_fork.result.now c.in_ok-extents.extents core.2
    c.data_format-format.ensures c.if-format-ne-EXTENTS_FORMAT.false c.data_fork.ensures c.data_extents.ensures c.in_ok-extents.ensures c.in-None.ensures
