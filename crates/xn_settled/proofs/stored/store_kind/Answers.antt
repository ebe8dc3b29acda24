use Rattle.std.specs.Prelude.{replicate, slice_range}
use Rattle.std.proofs.Common.{arith}
use Rattle.xn_bytes.proofs.Overlays.{length-slice_range}
use Rattle.xn_settled.specs.Inodes.{stored}
use Rattle.xn_settled.proofs.Laying.{laid_4}
use Rattle.xn_settled.proofs.Lengths.{length-stored}
use Rattle.xn_settled.proofs.stored.store_kind.Goals as goal

pub returns-clause-value : goal.returns-clause-value
returns-clause-value c =
    laid_4 c.args.inode.now c.store_u16.new.inode c.store_u16-2.new.inode c.keep_bytes.new.inode c.put_zeros.new.inode 0 2 4 6
    (stored 2 0 c.args.core.now) (stored 2 2 c.args.core.now) (slice_range c.args.core.now 4 6) (replicate 2 0)
    (omega (arith, c.requires)) c.store_u16.ensures.value (omega (arith, length-stored 2 0 c.args.core.now)) c.store_u16-2.ensures.value (omega (arith, length-stored 2 2 c.args.core.now)) c.keep_bytes.ensures.value (omega (arith, length-slice_range c.args.core.now 4 6 (omega (arith, c.requires)))) c.put_zeros.ensures.value
