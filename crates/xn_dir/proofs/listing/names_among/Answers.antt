use Rattle.std.proofs.Common.{◌∙◌, refl, sym}
use Rattle.xn_dir.proofs.Repeats.{kept_on, left_on}
use Rattle.xn_dir.proofs.listing.names_among.Goals as goal
use Rattle.xn_dir.proofs.listing.names_among.Goals.{then-is_among+in_ok-push, else-is_among}

pub loop-entry-preserved : goal.loop-entry-preserved
loop-entry-preserved c =
    let hashes = c.args.hashes.now in
    let listed = c.args.listed.now in
    let i = c.loop-entry.entry-index in
    let entry = c.entry-item.result in
    let names = c.loop-entry.names.items in
    let within = c.loop-entry-test.true in
    elim c.if-is_among.branch [
      | then-is_among+in_ok-push w ↦ rw w.names-is (kept_on hashes listed i entry names w.push.new.self.items (record { hash = c.name_hash-hash.result; name = c.bytes-name.result }) within (sym c.entry-item.is)
          (rw (c.name_hash-hash.ensures, c.bytes-name.ensures.value) at (sym c.is_among.ensures ∙ w.if-is_among.true)) (rw (c.name_hash-hash.ensures, c.bytes-name.ensures.value) refl) w.in_ok-push.ensures.items c.loop-entry.invariant)
      | else-is_among w ↦ rw w.names-is (left_on hashes listed i entry names within (sym c.entry-item.is) (rw (c.name_hash-hash.ensures, c.bytes-name.ensures.value) at (sym c.is_among.ensures ∙ w.if-is_among.false)) c.loop-entry.invariant)
    ]
