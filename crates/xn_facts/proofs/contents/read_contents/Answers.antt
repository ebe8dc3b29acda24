use Rattle.xn_facts.proofs.ContentsOver.{contents_over}
use Rattle.xn_facts.proofs.contents.read_contents.Goals as goal

pub returns-clause-contents : goal.returns-clause-contents
returns-clause-contents g c =
    let listed = c.in_ok-entries.ensures in
    let dotted = c.in_ok-dotdot.ensures in
    contents_over (g.S.Store.shape c.args.store.now) (g.S.Store.image c.args.store.now) c.args.dir c.args.inode.now
    (record { entries = c.in_ok-entries.entries; dotdot = c.in_ok-dotdot.dotdot; has_dot = c.in_ok-has_dot.has_dot })
    c.requires.directory listed.names c.requires.bytes listed.inode listed.holds
    (rw (listed.stays.image_stays, listed.stays.shape_stays) at dotted.dotdot)
    (rw (dotted.stays.image_stays, dotted.stays.shape_stays, listed.stays.image_stays, listed.stays.shape_stays) at c.in_ok-has_dot.ensures.dot)
