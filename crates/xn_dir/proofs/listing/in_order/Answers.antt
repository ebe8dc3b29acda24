use Rattle.std.proofs.Common.{rules}
use Rattle.std.specs.Ordering.{nat_cmp, is_lt}
use Rattle.std.specs.Cmp.Lexicographic.{slice_cmp, nat_list_cmp_total}
use Rattle.std.proofs.lemmas.List.Sorted.{answers_always, ranks_by, IsPermutation-map}
use Rattle.xn_dir.proofs.Names.{sorted_map}
use Rattle.xn_dir.proofs.HashedNames.{in_one}
use Rattle.xn_dir.proofs.listing.in_order.Goals as goal

pub returns-clause-same : goal.returns-clause-same
returns-clause-same c = IsPermutation-map in_one c.args.names.items c.sort_by.new.self.items c.in_ok-sort_by.ensures.permutation

pub returns-clause-sorted : goal.returns-clause-sorted
returns-clause-sorted c =
    sorted_map in_one (λ a b. is_lt (slice_cmp nat_cmp a b)) c.sort_by.new.self.items
    (c.in_ok-sort_by.ensures.sorted (λ a b. is_lt (slice_cmp nat_cmp (in_one a) (in_one b))) (ranks_by nat_list_cmp_total in_one) (answers_always _ _ _ (λ f a r t k. search rules)))
