use Rattle.xn_inode.proofs.HomeLists.{mapped_home}
use Rattle.xn_attr.proofs.tree_form.tree_fork.Goals as goal

pub returns-clause-blocks : goal.returns-clause-blocks
returns-clause-blocks c = λ file_block block there.
    let list = c.in_ok-extents.ensures in
    (mapped_home c.args.geometry.now c.in_ok-extents.extents file_block block (rw list.1 list.0.home) there).place
