use Rattle.xn_attr.proofs.OverImages.{grows_alone, no_tree_else}
use Rattle.xn_attr.proofs.attr.Attr.grow.Goals as goal

pub returns-in_default-clause-growth : goal.returns-in_default-clause-growth
returns-in_default-clause-growth g c =
    grows_alone (g.S.Store.shape c.args.store.now) c.args.ino (g.S.Store.image c.args.store.now) c.read_form.new.inode c.first_block.result c.in_ok-core.ensures.bytes
    (no_tree_else c.read_form.new.inode c.in_ok-core.form c.in_default.not-Tree c.in_ok-core.ensures.form) c.first_block.ensures
