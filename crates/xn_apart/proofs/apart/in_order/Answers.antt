use Rattle.xn_apart.proofs.Ordered.{in_order_from_sort}
use Rattle.xn_apart.proofs.apart.in_order.Goals as goal

pub returns-clause-sorted : goal.returns-clause-sorted
returns-clause-sorted c = in_order_from_sort _ c.sort_unstable.ensures.sorted
