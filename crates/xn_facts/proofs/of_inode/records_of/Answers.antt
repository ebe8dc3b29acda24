use Rattle.xn_facts.proofs.ParentsOver.{core_breaks_over}
use Rattle.xn_facts.proofs.Seeing.{parents_over}
use Rattle.xn_facts.proofs.of_inode.records_of.Goals as goal

pub returns-in_ok-verdict-in-Ok-clause-found : goal.returns-in_ok-verdict-in-Ok-clause-found
returns-in_ok-verdict-in-Ok-clause-found g c =
    rw (c.both.ensures.value, c.both.ensures.broken) (parents_over (g.S.Store.shape c.args.store.now) (g.S.Store.image c.args.store.now) c.args.ino c.in_ok-verdict-in-Ok.verdict c.in_ok-verdict-in-Ok.ensures.verdict)

pub returns-in-Err-clause-found : goal.returns-in-Err-clause-found
returns-in-Err-clause-found g c =
    core_breaks_over (g.S.Store.shape c.args.store.now) (g.S.Store.image c.args.store.now) c.args.ino c.args.inode.now c.of_core.result c.in-Err.fault.rule c.requires.bytes
    c.of_core.ensures.0 c.of_core.ensures.1 (rw c.in-Err.is at c.requires.core)
