use Rattle.std.proofs.Common.{◌+◌, sym, ap, ◌∙◌, arith}
use Rattle.xn_bytes.specs.Numbers.{overlaid}
use Rattle.xn_settled.specs.Inodes.{stored}
use Rattle.xn_settled.proofs.Laying.{laid_on}
use Rattle.xn_settled.proofs.Lengths.{length-stored, time_of_one, time_of_two}
use Rattle.xn_settled.proofs.stored.store_time.Goals as goal

pub returns-then-has_wide_times-clause-value : goal.returns-then-has_wide_times-clause-value
returns-then-has_wide_times-clause-value c =
    c.store_u64.ensures.value
    ∙ ap (λ over. overlaid c.args.inode.now c.args.at over) (sym (time_of_one c.args.at c.args.core.now (sym c.has_wide_times.ensures ∙ c.if-has_wide_times.true)))

pub returns-else-has_wide_times-clause-value : goal.returns-else-has_wide_times-clause-value
returns-else-has_wide_times-clause-value c =
    laid_on c.args.inode.now c.store_u32.new.inode c.store_u32-else-has_wide_times.new.inode c.args.at (c.args.at + 4)
    (stored 4 c.args.at c.args.core.now) (stored 4 (c.args.at + 4) c.args.core.now)
    c.store_u32.ensures.value c.store_u32-else-has_wide_times.ensures.value (omega (arith, length-stored 4 c.args.at c.args.core.now)) (omega (arith, c.requires))
    ∙ ap (λ over. overlaid c.args.inode.now c.args.at over) (sym (time_of_two c.args.at c.args.core.now (sym c.has_wide_times.ensures ∙ c.if-has_wide_times.false)))
