use Rattle.std.specs.Prelude.{replicate}
use Rattle.std.proofs.Common.{arith, refl}
use Rattle.byteorder.specs.Endian.{big_bytes}
use Rattle.xn_settled.specs.Inodes.{stored}
use Rattle.xn_settled.proofs.Laying.{laid_5}
use Rattle.xn_settled.proofs.Lengths.{length-stored}
use Rattle.xn_settled.proofs.stored.store_changes.Goals as goal

pub returns-clause-value : goal.returns-clause-value
returns-clause-value c =
    laid_5 c.args.inode.now c.store_u64.new.inode c.put_u64.new.bytes c.store_u64-2.new.inode c.store_u32.new.inode c.put_zeros.new.inode 104 112 120 128 132
    (stored 8 104 c.args.core.now) (big_bytes 8 c.args.lsn) (stored 8 120 c.args.core.now) (stored 4 128 c.args.core.now) (replicate 12 0)
    (omega (arith, c.requires)) c.store_u64.ensures.value (omega (arith, length-stored 8 104 c.args.core.now)) c.put_u64.ensures.value refl c.store_u64-2.ensures.value (omega (arith, length-stored 8 120 c.args.core.now)) c.store_u32.ensures.value (omega (arith, length-stored 4 128 c.args.core.now)) c.put_zeros.ensures.value
