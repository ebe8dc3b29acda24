use Rattle.std.proofs.Common.{ap, arith, length}
use Rattle.xn_record.proofs.SpelledLengths.{few_operations}
use Rattle.xn_record.proofs.write.append_behind.Goals as goal

pub overflow_cast-as_slice : goal.overflow_cast-as_slice
overflow_cast-as_slice c = omega (arith, few_operations c.args.record.now.ops, c.requires.most, ap length c.as_slice.ensures)
