use Rattle.std.proofs.Common.{ap, ◌∙◌}
use Rattle.xn_bytes.specs.Numbers.{overlaid}
use Rattle.xn_settled.specs.Inodes.{fork_end, front_of, stored_core}
use Rattle.xn_settled.proofs.Cores.{inode_laid}
use Rattle.xn_settled.proofs.inodes.lay_inode.Goals as goal

pub returns-clause-value : goal.returns-clause-value
returns-clause-value c =
    inode_laid c.args.item.now c.args.lsn c.args.inode.now c.store_core.new.inode c.lay_fork.new.inode c.lay_fork-2.new.inode c.put_checksum.new.bytes
    c.requires.core c.requires.inode
    (c.store_core.ensures.value ∙ ap (λ core. overlaid c.args.inode.now 0 (stored_core core c.args.lsn c.args.inode.now)) c.as_slice.ensures)
    c.lay_fork.ensures.value
    (c.lay_fork-2.ensures.value ∙ ap (λ at. overlaid c.lay_fork.new.inode at (front_of c.args.item.now.attr_fork)) (c.fork_end.ensures ∙ ap fork_end c.as_slice-2.ensures))
    c.put_checksum.ensures.value
