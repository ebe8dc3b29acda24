use Rattle.std.proofs.Common.{refl}
use Rattle.xn_bytes.proofs.TestLemmas.{holds, fails}
use Rattle.xn_parent.proofs.Listing.{in_order_where_rising, rising_where_right}
use Rattle.xn_parent.proofs.listed.parents_in.Goals as goal

pub returns-then-rise : goal.returns-then-rise
returns-then-rise c =
    let found = c.in_ok-records_among.ensures in
    in_order_where_rising c.args.attributes.now c.in_ok-records_among.field-0.items c.in_order-parents.result.items found.0 found.1 c.in_order-parents.ensures.same (rw c.deref.ensures.value at (holds c.if-rise.ensures))

pub returns-else-rise : goal.returns-else-rise
returns-else-rise c =
    rw c.of_rule.ensures (
      refl,
      refl,
      λ right.
          fails c.if-rise.ensures (rw c.deref.ensures.value
          (rising_where_right c.args.attributes.now c.in_ok-records_among.field-0.items c.in_order-parents.result.items c.in_ok-records_among.ensures.1 c.in_order-parents.ensures.same c.in_order-parents.ensures.sorted right)),
    )
