use Rattle.xn_ns.proofs.Ending.{directory_fault}
use Rattle.xn_ns.proofs.listing.list_directory.Goals as goal

pub returns-in-Err-clause-answered : goal.returns-in-Err-clause-answered
returns-in-Err-clause-answered g c =
    rw c.of_inode.ensures (directory_fault (g.S.Store.shape c.args.store.now) c.args.dir (g.S.Store.image c.args.store.now) (g.S.Store.faults c.args.store.now) (g.S.Store.faults c.list.new.store) c.in-Err.fault c.in-Err.ensures.fault)
