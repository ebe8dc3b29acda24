use Rattle.std.proofs.Common.{◌≡◌, ◌<◌, ℕ, List, Option, None, get_or, ltb, rules, subst, ◌∙◌, arith, sym}
use Rattle.std.specs.Prelude.{MatchOption}
use Rattle.std.proofs.lemmas.List.Sorted.{IsPartitionPoint-from_clause, IsPartitionedBy-ltb}
use Rattle.xn_bytes.specs.Extents.{Run, AreRuns, mapped}
use Rattle.xn_inode.specs.Lists.{IsLastRun}
use Rattle.xn_inode.proofs.Lasts.{last_searched, none_searched, starts_rise}
use Rattle.xn_inode.proofs.extents.Extents.last_run.Goals as goal

pub returns-in_err-at : goal.returns-in_err-at
returns-in_err-at c =
    let rise : AreRuns 0 c.args.self.now = subst (λ (runs : List Run). AreRuns 0 runs) c.self.view_is c.self.invariant in
    let same : c.deref.result.now ≡ c.args.self.now = c.deref.ensures.value ∙ c.self.view_is in
    let risen : AreRuns 0 c.deref.result.now = subst (λ (runs : List Run). AreRuns 0 runs) (sym same) rise in
    let parted = IsPartitionedBy-ltb (λ (run : Run). run.file_block) _ c.args.limit (starts_rise 0 _ risen) in
    let point = IsPartitionPoint-from_clause (λ run. ltb run.file_block c.args.limit) _ _ c.partition_point-count.ensures.partitioned parted (λ a r q k. search rules) in
    let none : c.partition_point-count.result ≡ 0 = omega (arith, c.in_err-at.ensures) in
    subst (λ (o : Option Run). MatchOption o ((file_block : ℕ) → file_block < c.args.limit → mapped c.args.self.now file_block ≡ None) (IsLastRun c.args.self.now c.args.limit))
    (sym c.from_residual.ensures) (none_searched _ _ _ c.args.limit rise same point none)

pub returns : goal.returns
returns c =
    let rise : AreRuns 0 c.args.self.now = subst (λ (runs : List Run). AreRuns 0 runs) c.self.view_is c.self.invariant in
    let same : c.deref.result.now ≡ c.args.self.now = c.deref.ensures.value ∙ c.self.view_is in
    let risen : AreRuns 0 c.deref.result.now = subst (λ (runs : List Run). AreRuns 0 runs) (sym same) rise in
    let parted = IsPartitionedBy-ltb (λ (run : Run). run.file_block) _ c.args.limit (starts_rise 0 _ risen) in
    let point = IsPartitionPoint-from_clause (λ run. ltb run.file_block c.args.limit) _ _ c.partition_point-count.ensures.partitioned parted (λ a r q k. search rules) in
    let item = subst (λ (runs : List Run). c.index.result.now ≡ get_or runs c.in_ok-at.at c.index.result.now) (sym c.deref.ensures.value) c.index.ensures in
    last_searched _ _ _ c.in_ok-at.at c.args.limit _ rise same point (omega (arith, c.in_ok-at.ensures)) (omega (arith, c.in_ok-at.ensures, c.partition_point-count.ensures.bound)) item
