use Rattle.std.proofs.Common.{refl}
use Rattle.byteorder.specs.Endian.{big_bytes}
use Rattle.xn_bytes.proofs.NumberLemmas.{laid}
use Rattle.xn_bytes.proofs.numbers.put_u32.Goals as goal

pub returns-clause-value : goal.returns-clause-value
returns-clause-value c = laid c.args.bytes.now c.args.at 4 (big_bytes 4 c.args.number) c.write_u32.new.buf refl c.requires c.write_u32.ensures
