use Rattle.std.proofs.Common.{sym}
use Rattle.xn_facts.proofs.InodesInBlocks.{inode_over}
use Rattle.xn_facts.proofs.inodes.InodeBlock.inode.Goals as goal

pub returns-clause-bytes : goal.returns-clause-bytes
returns-clause-bytes g c =
    inode_over (g.S.Store.shape c.args.store.now) (g.S.Store.image c.args.store.now) c.args.ino c.self.inside.bytes c.copy_inode.new.inode
    c.self.told c.copy_inode.ensures (rw (sym c.self.view_is) at c.in_ok-hold.ensures.bytes)
