use Rattle.std.proofs.Common.{leb, rules}
use Rattle.std.proofs.lemmas.List.Sorted.{IsPartitionPoint-from_clause, IsPartitionedBy-leb}
use Rattle.xn_pool.specs.declared.runs.Start.{Start}
use Rattle.xn_pool.proofs.RunSplits.{split_from_point}
use Rattle.xn_pool.proofs.runs.started_by_block.Goals as goal

pub returns : goal.returns
returns c =
    let parted = IsPartitionedBy-leb (λ (s : Start). s.block) _ c.args.block c.requires in
    let point = IsPartitionPoint-from_clause (λ (s : Start). leb s.block c.args.block) _ _ c.partition_point.ensures.partitioned parted (λ a r q k. search rules) in
    split_from_point (λ (s : Start). s.block) _ _ _ c.partition_point.ensures.bound point
