use Rattle.std.proofs.Common.{rules}
use Rattle.xn_attrleaf.proofs.Headers.{puts_counts}
use Rattle.xn_attrleaf.proofs.header.put_counts.Goals as goal

pub returns : goal.returns
returns c =
    puts_counts c.args.count c.args.first c.args.block.now c.put_u16.new.bytes c.put_u16-2.new.bytes c.put_u16-3.new.bytes c.put_u16-4.new.bytes c.requires.size (search rules) c.requires.first
    c.put_u16.ensures.value c.put_u16-2.ensures.value c.put_u16-3.ensures.value c.put_u16-4.ensures.value
