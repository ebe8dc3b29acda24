use Rattle.std.proofs.Common.{leb, rules}
use Rattle.std.proofs.lemmas.List.Sorted.{IsPartitionPoint-from_clause, IsPartitionedBy-leb}
use Rattle.xn_reach.specs.declared.step.Step.{Step}
use Rattle.xn_reach.proofs.StepRuns.{point_up_to}
use Rattle.xn_reach.proofs.step.count_up_to.Goals as goal

pub returns-clause-point : goal.returns-clause-point
returns-clause-point c =
    let parted = IsPartitionedBy-leb (λ (s : Step). s.from) _ c.args.number c.requires in
    point_up_to _ c.args.number _ (IsPartitionPoint-from_clause (λ (s : Step). leb s.from c.args.number) _ _ c.partition_point.ensures.partitioned parted (λ a r q k. search rules))
