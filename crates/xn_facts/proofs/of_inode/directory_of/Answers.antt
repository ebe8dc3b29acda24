use Rattle.xn_bytes.proofs.TestLemmas.{holds}
use Rattle.xn_facts.proofs.Seeing.{seen_over}
use Rattle.xn_facts.proofs.of_inode.directory_of.Goals as goal

pub returns-in_ok-verdict-clause-found : goal.returns-in_ok-verdict-clause-found
returns-in_ok-verdict-clause-found g c =
    rw (c.both.ensures.value, c.both.ensures.broken) (seen_over (g.S.Store.shape c.args.store.now) (g.S.Store.image c.args.store.now) c.args.ino c.args.inode.now c.in_ok-verdict.verdict
    c.requires.bytes (holds c.if-is_directory.ensures) c.in_ok-verdict.ensures.verdict)
