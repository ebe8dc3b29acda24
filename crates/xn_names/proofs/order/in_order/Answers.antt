use Rattle.std.proofs.Common.{rules}
use Rattle.std.specs.Ordering.{is_lt}
use Rattle.std.proofs.lemmas.List.Sorted.{answers_always, ranks_by}
use Rattle.xn_names.specs.Names.{naming_cmp, IsInOrder}
use Rattle.xn_names.proofs.Orders.{naming_total, by_inode}
use Rattle.xn_names.proofs.order.in_order.Goals as goal

pub returns-clause-sorted : goal.returns-clause-sorted
returns-clause-sorted c =
    c.sort_unstable_by.ensures.sorted (λ a b. is_lt (naming_cmp a b)) (ranks_by naming_total (λ n. n))
    (answers_always _ _ _ (λ f a r t k. search rules))

pub returns-clause-by_inode : goal.returns-clause-by_inode
returns-clause-by_inode c =
    let sorted : IsInOrder c.sort_unstable_by.new.self.items = returns-clause-sorted c in
    by_inode c.sort_unstable_by.new.self.items sorted
