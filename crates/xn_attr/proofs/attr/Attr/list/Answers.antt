use Rattle.std.proofs.lemmas.Result.{IfErr-weaker, IfOk-weaker}
use Rattle.xn_bytes.specs.AttributeForks.{AttrBreaks}
use Rattle.xn_attr.proofs.OverImages.{cost_later, fault_later}
use Rattle.xn_attr.proofs.attr.Attr.list.Goals as goal

pub returns-clause-holds : goal.returns-clause-holds
returns-clause-holds g c =
    let stays = c.in_ok-core.ensures.stays in rw (stays.image_stays, stays.shape_stays) at c.list_in.ensures.holds

pub returns-clause-fault : goal.returns-clause-fault
returns-clause-fault g c =
    let stays = c.in_ok-core.ensures.stays in
    let fails = rw stays.shape_stays at c.list_in.ensures.fault in
    IfErr-weaker c.list_in.result _ _
    (λ fault. fault_later g.S.Store (λ x. AttrBreaks (g.S.Store.shape c.args.store.now) x c.args.ino)
    c.args.store.now c.read_core.new.store c.list_in.new.store fault stays) fails

pub returns-clause-reads : goal.returns-clause-reads
returns-clause-reads g c =
    let store = c.args.store.now in
    let stays = c.in_ok-core.ensures.stays in
    let reads = rw (stays.image_stays, stays.shape_stays) at c.list_in.ensures.reads in
    IfOk-weaker c.list_in.result _ _
    (λ _. cost_later (g.S.Store.shape store) c.args.ino _ (g.S.Store.fetches store)
    (g.S.Store.fetches c.read_core.new.store) (g.S.Store.fetches c.list_in.new.store) c.in_ok-core.ensures.fetches)
    reads
