use Rattle.std.specs.Prelude.{slice_range}
use Rattle.std.proofs.Common.{arith}
use Rattle.xn_settled.specs.Inodes.{stored, stored_time}
use Rattle.xn_settled.proofs.Laying.{laid_3}
use Rattle.xn_settled.proofs.Lengths.{length-stored, length-stored_time}
use Rattle.xn_settled.proofs.stored.store_own.Goals as goal

pub returns-clause-value : goal.returns-clause-value
returns-clause-value c =
    laid_3 c.args.inode.now c.store_time.new.inode c.store_u64.new.inode c.keep_bytes.new.inode 144 152 160
    (stored_time 144 c.args.core.now) (stored 8 152 c.args.core.now) (slice_range c.args.core.now 160 176)
    (omega (arith, c.requires)) c.store_time.ensures.value (omega (arith, length-stored_time 144 c.args.core.now)) c.store_u64.ensures.value (omega (arith, length-stored 8 152 c.args.core.now)) c.keep_bytes.ensures.value
