use Rattle.xn_settled.proofs.Cores.{core_laid}
use Rattle.xn_settled.proofs.stored.store_core.Goals as goal

pub returns-clause-value : goal.returns-clause-value
returns-clause-value c =
    core_laid c.args.core.now c.args.inode.now c.store_kind.new.inode c.store_owner.new.inode c.store_times.new.inode c.store_size.new.inode c.store_forks.new.inode
    c.put_u32.new.bytes c.store_changes.new.inode c.store_own.new.inode c.args.lsn c.requires.0 c.requires.1
    c.store_kind.ensures.value c.store_owner.ensures.value c.store_times.ensures.value c.store_size.ensures.value c.store_forks.ensures.value
    c.put_u32.ensures.value c.store_changes.ensures.value c.store_own.ensures.value
