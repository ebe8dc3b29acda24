use Rattle.std.proofs.Common.{◌∙◌}
use Rattle.xn_ring.proofs.Labelling.{label_follows, label_begins}
use Rattle.xn_ring.proofs.label.label.Goals as goal
use Rattle.xn_ring.proofs.label.label.Goals.{in-Some-follower, in-None}

pub returns-after-follower : goal.returns-after-follower
returns-after-follower c =
    let own = c.in-Some.ensures in
    elim c.match-follower.branch [
      | in-Some-follower w ↦
          let next = w.in-Some-follower.ensures in
          label_follows _ _ _ own.0 next.0 _ _ w.in-Some-follower.next _ c.requires.by_sector c.requires.as_many own.1 (own.2 ∙ c.from.ensures) next.1 next.2 w.labels-is
      | in-None w ↦ label_begins _ _ _ own.0 _ _ _ c.requires.by_sector c.requires.as_many own.1 (own.2 ∙ c.from.ensures) w.in-None.ensures
    ]
