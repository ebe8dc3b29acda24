use Rattle.std.proofs.Common.{◌≡◌}
use Rattle.std.specs.List.{AllAdjacentBelow}
use Rattle.std.specs.declared.cmp.Ordering.TheVariants.{Less}
use Rattle.xn_items.specs.Viewed.{record_of}
use Rattle.xn_parent.specs.Order.{record_cmp}
use Rattle.xn_parent.proofs.order.rise.Given as goal

abbrev pub invariant-loop-next : goal.invariant-loop-next
invariant-loop-next l = AllAdjacentBelow (λ a b. record_cmp (record_of a) (record_of b) ≡ Less) l.parents l.next
