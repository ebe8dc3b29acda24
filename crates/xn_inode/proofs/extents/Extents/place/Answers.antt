use Rattle.std.proofs.Common.{◌≡◌, List, leb, rules, subst, sym, ◌∙◌}
use Rattle.std.proofs.lemmas.List.Sorted.{IsPartitionPoint-from_clause, IsPartitionedBy-leb}
use Rattle.xn_bytes.specs.Extents.{Run, AreRuns, end_of_run}
use Rattle.xn_inode.specs.Lists.{IsPlace}
use Rattle.xn_inode.proofs.Runs.{ends_rise, searched}
use Rattle.xn_inode.proofs.extents.Extents.place.Goals as goal

pub returns : goal.returns
returns c =
    let rise : AreRuns 0 c.deref.result.now = subst (λ (runs : List Run). AreRuns 0 runs) (sym c.deref.ensures.value) c.self.invariant in
    let parted = IsPartitionedBy-leb end_of_run _ c.args.file_block (ends_rise 0 _ rise) in
    let point = IsPartitionPoint-from_clause (λ run. leb (end_of_run run) c.args.file_block) _ _ c.partition_point.ensures.partitioned parted (λ a r q k. search rules) in
    let same : c.deref.result.now ≡ c.args.self.now = c.deref.ensures.value ∙ c.self.view_is in
    subst (λ (runs : List Run). IsPlace runs c.args.file_block c.partition_point.result) same
    (searched _ _ c.args.file_block rise point)
