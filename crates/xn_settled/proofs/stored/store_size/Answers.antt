use Rattle.std.proofs.Common.{arith}
use Rattle.xn_settled.specs.Inodes.{stored}
use Rattle.xn_settled.proofs.Laying.{laid_5}
use Rattle.xn_settled.proofs.Lengths.{length-stored}
use Rattle.xn_settled.proofs.stored.store_size.Goals as goal

pub returns-clause-value : goal.returns-clause-value
returns-clause-value c =
    laid_5 c.args.inode.now c.store_u64.new.inode c.store_u64-2.new.inode c.store_u32.new.inode c.store_u32-2.new.inode c.store_u16.new.inode 56 64 72 76 80
    (stored 8 56 c.args.core.now) (stored 8 64 c.args.core.now) (stored 4 72 c.args.core.now) (stored 4 76 c.args.core.now) (stored 2 80 c.args.core.now)
    (omega (arith, c.requires)) c.store_u64.ensures.value (omega (arith, length-stored 8 56 c.args.core.now)) c.store_u64-2.ensures.value (omega (arith, length-stored 8 64 c.args.core.now)) c.store_u32.ensures.value (omega (arith, length-stored 4 72 c.args.core.now)) c.store_u32-2.ensures.value (omega (arith, length-stored 4 76 c.args.core.now)) c.store_u16.ensures.value
