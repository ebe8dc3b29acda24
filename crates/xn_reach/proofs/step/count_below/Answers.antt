use Rattle.std.proofs.Common.{ltb, rules}
use Rattle.std.proofs.lemmas.List.Sorted.{IsPartitionPoint-from_clause, IsPartitionedBy-ltb}
use Rattle.xn_reach.specs.declared.step.Step.{Step}
use Rattle.xn_reach.proofs.StepRuns.{point_below}
use Rattle.xn_reach.proofs.step.count_below.Goals as goal

pub returns-clause-point : goal.returns-clause-point
returns-clause-point c =
    let parted = IsPartitionedBy-ltb (λ (s : Step). s.from) _ c.args.number c.requires in
    point_below _ c.args.number _ (IsPartitionPoint-from_clause (λ (s : Step). ltb s.from c.args.number) _ _ c.partition_point.ensures.partitioned parted (λ a r q k. search rules))
