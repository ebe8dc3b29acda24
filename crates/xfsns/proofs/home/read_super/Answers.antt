use Rattle.xfsns.proofs.HomeLemmas.{finds}
use Rattle.xfsns.proofs.home.read_super.Goals as goal

pub returns-clause-found : goal.returns-clause-found
returns-clause-found g c =
    let count = c.sectors-sectors.ensures.count in
    rw c.ok.ensures.value
    (finds (g.M.Machine.image c.args.machine.now) (g.M.Machine.sector_count c.args.machine.now) c.read.new.into c.read-2.result
    (rw count at c.read-2.ensures) c.in_ok-read.ensures.sectors (rw count at c.sectors-sectors.ensures.whole))
