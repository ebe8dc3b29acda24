use Rattle.std.specs.Prelude.{slice_range}
use Rattle.std.proofs.Common.{arith}
use Rattle.xn_bytes.proofs.Overlays.{length-slice_range}
use Rattle.xn_settled.specs.Inodes.{stored}
use Rattle.xn_settled.proofs.Laying.{laid_5}
use Rattle.xn_settled.proofs.Lengths.{length-stored}
use Rattle.xn_settled.proofs.stored.store_forks.Goals as goal

pub returns-clause-value : goal.returns-clause-value
returns-clause-value c =
    laid_5 c.args.inode.now c.keep_bytes.new.inode c.store_u32.new.inode c.store_u16.new.inode c.store_u16-2.new.inode c.store_u32-2.new.inode 82 84 88 90 92
    (slice_range c.args.core.now 82 84) (stored 4 84 c.args.core.now) (stored 2 88 c.args.core.now) (stored 2 90 c.args.core.now) (stored 4 92 c.args.core.now)
    (omega (arith, c.requires)) c.keep_bytes.ensures.value (omega (arith, length-slice_range c.args.core.now 82 84 (omega (arith, c.requires)))) c.store_u32.ensures.value (omega (arith, length-stored 4 84 c.args.core.now)) c.store_u16.ensures.value (omega (arith, length-stored 2 88 c.args.core.now)) c.store_u16-2.ensures.value (omega (arith, length-stored 2 90 c.args.core.now)) c.store_u32-2.ensures.value
