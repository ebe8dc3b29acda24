use Rattle.std.proofs.Common.{◌≡◌, ℕ, ◌+◌, ◌-◌, ◌*◌, length, Some, sym, ap, subst, ◌∙◌, arith}
use Rattle.xn_bytes.proofs.Overlays.{length-slice_range, put_mid-overlaid}
use Rattle.xn_replay.specs.Overlay.{kept_at}
use Rattle.xn_replay.proofs.Piece.{IsLaid, laid_some, laid_none}
use Rattle.xn_replay.proofs.view.View.lay_over.Goals as goal
use Rattle.xn_replay.proofs.view.View.lay_over.Goals.{in-Some, in_default}

pub loop-k-preserved : goal.loop-k-preserved
loop-k-preserved c =
    let k : ℕ = c.loop-k.k in
    let low = c.loop-k-test.true in
    let step = IsLaid c.args.self.now.kept c.args.first (k + 1) c.args.into.now in
    elim c.match-sector.branch [
      | in-Some w ↦
          let part : length w.copy_from_slice.new.self ≡ 512 * (k + 1) - 512 * k =
          w.copy_from_slice.ensures.len ∙ length-slice_range c.loop-k.into (512 * k) (512 * (k + 1)) (omega (arith, c.loop-k.auto.into)) in
          let found : kept_at c.args.self.now.kept (c.args.first + k) ≡ Some w.copy_from_slice.new.self =
          sym w.in-Some.ensures ∙ ap Some (sym w.copy_from_slice.ensures.after) in
          subst step (sym (w.into-is ∙ put_mid-overlaid (512 * k) (512 * (k + 1) - 512 * k) c.loop-k.into w.copy_from_slice.new.self part))
          (laid_some c.args.self.now.kept c.args.first k c.args.into.now c.loop-k.into _ c.loop-k.auto.into low (omega arith) found c.loop-k.invariant)
      | in_default w ↦
          subst step (sym w.into-is)
          (laid_none c.args.self.now.kept c.args.first k c.args.into.now c.loop-k.into low (sym w.in_default.ensures) c.loop-k.invariant)
    ]
