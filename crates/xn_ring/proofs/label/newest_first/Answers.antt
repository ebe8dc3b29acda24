use Rattle.std.proofs.Common.{◌≡◌, rules}
use Rattle.std.proofs.lemmas.Fn.{always_returns_same}
use Rattle.xn_ring.proofs.Falling.{in_order, newest_key}
use Rattle.xn_ring.proofs.label.newest_first.Goals as goal

pub returns : goal.returns
returns c =
    in_order _ _ _ (c.in_ok-newest.ensures.items_if_clones_equal (λ x y e. e)) c.sort_unstable_by_key.ensures.permutation
    (c.sort_unstable_by_key.ensures.sorted newest_key (always_returns_same _ (λ a r. r ≡ newest_key a.0.now) _ (λ a r q k. search rules)))
