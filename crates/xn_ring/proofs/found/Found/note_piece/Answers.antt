use Rattle.std.proofs.Common.{◌≡◌, ◌+◌, ◌*◌, ℕ, List, subst, sym, arith}
use Rattle.std.proofs.lemmas.List.{take_rest}
use Rattle.xn_ring.specs.Scans.{HavePlaces, IsNoted, IsWindow}
use Rattle.xn_ring.specs.declared.found.Found.{Found}
use Rattle.xn_ring.proofs.Noting.{window_of_piece}
use Rattle.xn_ring.proofs.found.Found.note_piece.Goals as goal

pub loop-k-preserved : goal.loop-k-preserved
loop-k-preserved c =
    let start = c.args.start in
    let k = c.loop-k.k in
    let now : Found = record { marks = c.note_mark.new.marks; outlines = c.note_record.new.outlines } in
    let next : start + k + 1 ≡ start + (k + 1) = omega arith in
    record {
      noted = λ ring same piece was.
          let before = c.loop-k.invariant.noted ring same piece was in
          let W : List ℕ → Type 0 = λ bytes. IsWindow ring (start + k) bytes in
          let window = subst W (sym (take_rest c.args.bytes.now (512 * k))) (window_of_piece ring start c.args.count k c.args.bytes.now piece (omega arith)) in
          let P : ℕ → Type 0 = λ done. IsNoted c.args.uuid.now ring done now in
          subst P next
          (record {
            marks = c.in_ok-note_mark.ensures ring window before.marks;
            outlines = c.in_ok-note_record.ensures.outlined ring same window before.outlines;
          });
      places = λ was.
          let P : ℕ → Type 0 = λ done. HavePlaces c.args.ring_sectors done c.note_record.new.outlines.items in
          subst P next (c.in_ok-note_record.ensures.places (c.loop-k.invariant.places was));
    }
