use Rattle.std.proofs.Common.{◌≡◌, ◌⊎◌, inl, inr, ◌/◌, length, sym, subst}
use Rattle.std.specs.Prelude.{IfSome}
use Rattle.xn_machine.specs.Device.{read_from}
use Rattle.xn_replay.specs.Overlay.{AreAllKept}
use Rattle.xn_replay.proofs.Filling.{filled_where_told, on_ok_then}
use Rattle.xn_replay.proofs.fill.fill.Goals as goal
use Rattle.xn_replay.proofs.fill.fill.Goals.{then-not-has_all+in_ok-map_err, else-not-has_all}

pub returns-clause-bytes : goal.returns-clause-bytes
returns-clause-bytes g c =
    let image = g.M.Machine.image c.args.machine.now in
    let bytes = length c.args.into.now in
    let source : AreAllKept c.args.view.now.kept c.args.first (bytes / 512) ⊎ IfSome image (λ x. c.if-not-has_all.into ≡ read_from x c.args.first bytes) =
    elim c.if-not-has_all.branch [
      | then-not-has_all+in_ok-map_err w ↦
          inr (subst (λ read. IfSome image (λ x. read ≡ read_from x c.args.first bytes)) (sym w.into-is)
          (on_ok_then _ w.read.result w.map_err.result _ w.map_err.ensures.variant w.in_ok-map_err.was w.read.ensures.sectors))
      | else-not-has_all w ↦ inl (c.has_all.ensures.0 w.if-not-has_all.false)
    ] in
    filled_where_told c.args.view.now.kept _ image c.args.first bytes c.if-not-has_all.into c.lay_over.new.into
    c.requires.whole.length c.requires.whole.kept c.requires.sectors c.if-not-has_all.auto.into c.lay_over.auto.into c.lay_over.ensures source
