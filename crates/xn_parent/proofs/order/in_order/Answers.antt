use Rattle.std.proofs.Common.{rules}
use Rattle.std.specs.Ordering.{is_lt}
use Rattle.std.proofs.lemmas.List.Sorted.{answers_always, ranks_by}
use Rattle.xn_items.specs.Viewed.{record_of}
use Rattle.xn_parent.specs.Order.{record_cmp}
use Rattle.xn_parent.proofs.RecordOrder.{record_total}
use Rattle.xn_parent.proofs.order.in_order.Goals as goal

pub returns-clause-sorted : goal.returns-clause-sorted
returns-clause-sorted c =
    c.sort_unstable_by.ensures.sorted (λ a b. is_lt (record_cmp (record_of a) (record_of b))) (ranks_by record_total record_of) (answers_always _ _ _ (λ f a r t k. search rules))
