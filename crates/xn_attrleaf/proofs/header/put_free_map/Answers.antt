use Rattle.std.proofs.Common.{rules}
use Rattle.xn_attrleaf.proofs.Headers.{puts_free_map}
use Rattle.xn_attrleaf.proofs.header.put_free_map.Goals as goal

pub returns : goal.returns
returns c =
    puts_free_map c.args.base c.args.first c.args.block.now c.put_u16.new.bytes c.put_u16-2.new.bytes c.put_zeros.new.bytes c.requires.size (search rules) (search rules)
    c.put_u16.ensures.value c.put_u16-2.ensures.value c.put_zeros.ensures.value
