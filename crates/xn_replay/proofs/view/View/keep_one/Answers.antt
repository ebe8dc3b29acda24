use Rattle.std.proofs.Common.{◌≡◌, ap}
use Rattle.xn_replay.specs.Overlay.{ViewState}
use Rattle.xn_replay.proofs.Laying.{lays_one}
use Rattle.xn_replay.proofs.view.View.keep_one.Goals as goal

pub returns-clause-ok : goal.returns-clause-ok
returns-clause-ok c =
    let kept : c.self.inside.kept.entries ≡ c.args.self.now.kept = ap (λ (v : ViewState). v.kept) c.self.view_is in
    let copied = c.copy_from_slice.ensures.after in
    let entries = c.in_ok-insert.ensures.entries in
    lays_one _ _ c.args.sector c.args.bytes.now c.requires (cc) (λ q. let found = c.in_ok-insert.ensures.updates.0 q in cc)
