use Rattle.std.proofs.Common.{◌∙◌, refl}
use Rattle.xn_inode.proofs.Frames.{stays_on}
use Rattle.xn_facts.proofs.Together.{facts_over}
use Rattle.xn_facts.proofs.of_inode.facts_of.Goals as goal

pub directory_of-requires-clause-bytes : goal.directory_of-requires-clause-bytes
directory_of-requires-clause-bytes g c =
    let read = c.in_ok-inode.ensures in
    rw (read.stays.image_stays, read.stays.shape_stays) read.bytes

pub returns-clause-facts : goal.returns-clause-facts
returns-clause-facts g c =
    let read = c.in_ok-inode.ensures in
    let seen = c.in_ok-contents.ensures in
    let listed = c.in_ok-parents.ensures in
    let shape = c.geometry-2.ensures ∙ read.stays.shape_stays in
    facts_over (g.S.Store.shape c.args.store.now)
    (record {
      node = record { ino = c.args.ino; is_directory = c.is_directory-is_directory.result; known = c.in_ok-own.own.known; parents = c.in_ok-parents.parents; broken = c.lesser-broken.result };
      contents = c.in_ok-contents.contents;
      runs = c.in_ok-own.own.runs;
    })
    c.inode.new.inode c.in_ok-own.own c.in_ok-contents.of_directory c.in_ok-parents.of_parents
    (record { known = refl; runs = refl; broken = rw c.lesser.ensures at c.lesser-broken.ensures })
    c.is_directory-is_directory.ensures (rw shape at c.in_ok-own.ensures.own)
    (g.S.Store.image c.args.store.now) read.bytes
    (rw (read.stays.image_stays, read.stays.shape_stays) at seen.found)
    (rw (seen.stays.image_stays, seen.stays.shape_stays, read.stays.image_stays, read.stays.shape_stays) at listed.found)

pub returns-clause-stays : goal.returns-clause-stays
returns-clause-stays g c =
    let read = c.in_ok-inode.ensures in
    let on = g.met.S.Store.only_read_on in
    stays_on g.S.Store on _ _ _ read.stays (stays_on g.S.Store on _ _ _ c.in_ok-contents.ensures.stays c.in_ok-parents.ensures.stays)
