use Rattle.std.proofs.Common.{rules}
use Rattle.std.proofs.lemmas.List.Sorted.{answers_always}
use Rattle.xn_dir.specs.Compare.{comes_before}
use Rattle.xn_dir.proofs.Comparing.{ranks}
use Rattle.xn_dir.proofs.compare.in_order.Goals as goal

pub returns-clause-sorted : goal.returns-clause-sorted
returns-clause-sorted c = c.sort_unstable_by.ensures.sorted comes_before ranks (answers_always _ _ _ (λ f a r t k. search rules))
