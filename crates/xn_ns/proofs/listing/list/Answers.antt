use Rattle.std.proofs.lemmas.Option.{IfSome_then}
use Rattle.xn_ns.proofs.Ending.{attached_list}
use Rattle.xn_ns.proofs.listing.list.Goals as goal

pub returns-in-Attached-clause-answered : goal.returns-in-Attached-clause-answered
returns-in-Attached-clause-answered g c =
    let looked = c.in_ok-look_at.ensures in
    let seen = rw c.in-Attached.is at looked.seen in
    let answered = rw (looked.stays.image_stays, looked.stays.shape_stays) at c.list_directory.ensures.answered in
    attached_list (g.S.Store.shape c.args.store.now) c.args.manifest.now c.args.ino (g.S.Store.image c.args.store.now) (g.S.Store.faults c.args.store.now) (g.S.Store.faults c.look_at.new.store) (g.S.Store.faults c.list_directory.new.store) c.list_directory.result
    seen looked.stays.faults_later answered

pub returns-in-Attached-clause-looks : goal.returns-in-Attached-clause-looks
returns-in-Attached-clause-looks g c =
    let seen = rw c.in-Attached.is at c.in_ok-look_at.ensures.seen in
    IfSome_then (g.S.Store.image c.args.store.now) seen (λ x attached other. absurd (other attached))
