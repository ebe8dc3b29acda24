use Rattle.std.proofs.Common.{ltb, rules}
use Rattle.std.proofs.lemmas.List.Sorted.{IsPartitionPoint-from_clause, IsPartitionedBy-ltb}
use Rattle.xn_apart.proofs.Cleared.{point_below}
use Rattle.xn_apart.proofs.clear.count_below.Goals as goal

pub returns-clause-point : goal.returns-clause-point
returns-clause-point c =
    let parted = IsPartitionedBy-ltb (λ x. x) _ c.args.bound c.requires in
    point_below _ c.args.bound _ (IsPartitionPoint-from_clause (λ x. ltb x c.args.bound) _ _ c.partition_point.ensures.partitioned parted (λ a r q k. search rules))
