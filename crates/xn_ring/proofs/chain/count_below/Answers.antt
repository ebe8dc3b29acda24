use Rattle.std.proofs.Common.{ltb, rules}
use Rattle.std.proofs.lemmas.List.Sorted.{IsPartitionPoint-from_clause}
use Rattle.xn_log.specs.declared.outline.Outline.{Outline}
use Rattle.xn_ring.proofs.Places.{is_parted, point_below}
use Rattle.xn_ring.proofs.chain.count_below.Goals as goal

pub returns-clause-point : goal.returns-clause-point
returns-clause-point c =
    point_below _ c.args.sector _ (IsPartitionPoint-from_clause (λ (o : Outline). ltb o.sector c.args.sector) _ _ c.partition_point.ensures.partitioned (is_parted _ c.args.sector c.requires) (λ a r q k. search rules))
