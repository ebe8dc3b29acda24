use Rattle.std.proofs.Common.{◌≡◌, ◌-◌, ◌<◌, ◌≤◌, get_or, length, leb-true, ltb-true, sym, ◌∙◌, arith}
use Rattle.std.proofs.lemmas.List.{get_or_default}
use Rattle.xn_near.proofs.Points.{from_there, in_front}
use Rattle.xn_near.proofs.search.is_point.Goals as goal
use Rattle.xn_near.proofs.search.is_point.Goals.{then-at-items+then-at-eq0, then-at-items+else-at-eq0, else-at-items}

pub returns-else-at-items-2 : goal.returns-else-at-items-2
returns-else-at-items-2 g c holds =
    let n = g.T.Numbered.number_of in
    let items = c.args.items.now in
    let at = c.args.at in
    elim c.if-at-items.branch [
      | then-at-items+then-at-eq0 w ↦
          let within : at < length items = omega arith in
          let here : c.args.number ≤ c.number-else-at-items-2.result = leb-true _ _ holds in (
            omega arith,
            (
              λ k d low before. absurd (omega arith),
              from_there n items c.args.number at c.requires (λ d.
                  let same = get_or_default items at c.index-items-at-else-at-items-2.result d within in
                  let is : n (get_or items at d) ≡ c.number-else-at-items-2.result = cc in
                  omega (arith, here, is)),
            ),
          )
      | then-at-items+else-at-eq0 w ↦
          let within : at < length items = omega arith in
          let here : c.args.number ≤ c.number-else-at-items-2.result = leb-true _ _ holds in
          let less : w.number.result < c.args.number = ltb-true _ _ (sym w.value-is ∙ c.if-number.true) in (
            omega arith,
            (
              λ k d low before. in_front n items c.args.number at c.requires (λ d.
                  let same = get_or_default items (at - 1) w.index-items-at.result d (omega arith) in
                  let is : n (get_or items (at - 1) d) ≡ w.number.result = cc in
                  omega (arith, less, is)) (omega arith) k d before,
              from_there n items c.args.number at c.requires (λ d.
                  let same = get_or_default items at c.index-items-at-else-at-items-2.result d within in
                  let is : n (get_or items at d) ≡ c.number-else-at-items-2.result = cc in
                  omega (arith, here, is)),
            ),
          )
      | else-at-items w ↦
          let within : at ≤ length items = leb-true _ _ (sym w.value-is ∙ c.if-number.true) in
          absurd (omega arith)
    ]
