use Rattle.std.proofs.Common.{ltb, rules}
use Rattle.std.proofs.lemmas.List.Sorted.{IsPartitionPoint-from_clause, IsPartitionedBy-ltb}
use Rattle.xn_near.proofs.Points.{parts_below}
use Rattle.xn_near.proofs.search.count_below.Goals as goal

pub returns-else-is_point-clause-point : goal.returns-else-is_point-clause-point
returns-else-is_point-clause-point g c =
    let n = g.T.Numbered.number_of in
    let parted = IsPartitionedBy-ltb n c.args.items.now c.args.number c.requires in
    parts_below n c.args.items.now c.args.number c.partition_point.result
    (IsPartitionPoint-from_clause (λ x. ltb (n x) c.args.number) c.args.items.now c.partition_point.result c.partition_point.ensures.partitioned parted (λ a r q k. search rules))
