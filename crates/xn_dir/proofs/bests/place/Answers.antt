use Rattle.std.proofs.Common.{rules, ltb}
use Rattle.std.proofs.lemmas.List.Sorted.{IsPartitionPoint-from_clause, IsPartitionedBy-ltb}
use Rattle.xn_dir.proofs.Noted.{numbers_rise, searched}
use Rattle.xn_dir.proofs.bests.place.Goals as goal

pub returns : goal.returns
returns c = λ rising.
    let parted = IsPartitionedBy-ltb (λ best. best.number) _ c.args.number (numbers_rise _ rising) in
    searched _ _ c.args.number rising (IsPartitionPoint-from_clause (λ best. ltb best.number c.args.number) _ _ c.partition_point.ensures.partitioned parted (λ a r q k. search rules))
