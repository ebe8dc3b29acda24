use Rattle.std.proofs.Common.{arith}
use Rattle.xn_settled.specs.Inodes.{stored, stored_time}
use Rattle.xn_settled.proofs.Laying.{laid_4}
use Rattle.xn_settled.proofs.Lengths.{length-stored, length-stored_time}
use Rattle.xn_settled.proofs.stored.store_times.Goals as goal

pub returns-clause-value : goal.returns-clause-value
returns-clause-value c =
    laid_4 c.args.inode.now c.store_u64.new.inode c.store_time.new.inode c.store_time-2.new.inode c.store_time-3.new.inode 24 32 40 48
    (stored 8 24 c.args.core.now) (stored_time 32 c.args.core.now) (stored_time 40 c.args.core.now) (stored_time 48 c.args.core.now)
    (omega (arith, c.requires)) c.store_u64.ensures.value (omega (arith, length-stored 8 24 c.args.core.now)) c.store_time.ensures.value (omega (arith, length-stored_time 32 c.args.core.now)) c.store_time-2.ensures.value (omega (arith, length-stored_time 40 c.args.core.now)) c.store_time-3.ensures.value
