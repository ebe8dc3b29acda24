use Rattle.std.proofs.Common.{sym, ap}
use Rattle.xn_bytes.specs.HashedTree.{Child}
use Rattle.xn_datree.proofs.Children.{ends_by_places}
use Rattle.xn_datree.proofs.held.ends_of.Goals as goal

pub returns-in-len2-up : goal.returns-in-len2-up
returns-in-len2-up c =
    let e = ends_by_places c.args.children.now c.first-item.result c.last-item.result c.in-len2-up.len_at_least c.first-item.is c.last-item.is in
    rw (ap (λ (d : Child). d.hash) c.first.view_is, ap (λ (d : Child). d.hash) c.last.view_is) (sym e)
