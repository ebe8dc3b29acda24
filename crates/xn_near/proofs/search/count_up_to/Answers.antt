use Rattle.std.proofs.Common.{◌≡◌, ◌<◌, get_or, arith}
use Rattle.std.proofs.lemmas.List.{get_or_default}
use Rattle.xn_near.proofs.Points.{from_above}
use Rattle.xn_near.proofs.search.count_up_to.Goals as goal

pub returns-then-number-clause-point : goal.returns-then-number-clause-point
returns-then-number-clause-point g c =
    let n = g.T.Numbered.number_of in
    let items = c.args.items.now in
    let at = c.loop-at.at in
    let more : c.args.number < c.number.result = omega arith in (
      λ k d low before. c.loop-at.invariant k d before,
      from_above n items c.args.number at c.requires (λ d.
          let same = get_or_default items at c.index-items-at.result d c.loop-at-test.true in
          let here : n (get_or items at d) ≡ c.number.result = cc in
          omega (arith, more, here)),
    )
