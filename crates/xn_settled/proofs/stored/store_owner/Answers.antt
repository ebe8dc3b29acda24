use Rattle.std.proofs.Common.{arith}
use Rattle.xn_settled.specs.Inodes.{stored}
use Rattle.xn_settled.proofs.Laying.{laid_5}
use Rattle.xn_settled.proofs.Lengths.{length-stored}
use Rattle.xn_settled.proofs.stored.store_owner.Goals as goal

pub returns-clause-value : goal.returns-clause-value
returns-clause-value c =
    laid_5 c.args.inode.now c.store_u32.new.inode c.store_u32-2.new.inode c.store_u32-3.new.inode c.store_u16.new.inode c.store_u16-2.new.inode 8 12 16 20 22
    (stored 4 8 c.args.core.now) (stored 4 12 c.args.core.now) (stored 4 16 c.args.core.now) (stored 2 20 c.args.core.now) (stored 2 22 c.args.core.now)
    (omega (arith, c.requires)) c.store_u32.ensures.value (omega (arith, length-stored 4 8 c.args.core.now)) c.store_u32-2.ensures.value (omega (arith, length-stored 4 12 c.args.core.now)) c.store_u32-3.ensures.value (omega (arith, length-stored 4 16 c.args.core.now)) c.store_u16.ensures.value (omega (arith, length-stored 2 20 c.args.core.now)) c.store_u16-2.ensures.value
