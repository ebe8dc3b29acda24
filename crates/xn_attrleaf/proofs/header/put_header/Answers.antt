use Rattle.xn_attrleaf.proofs.Headers.{puts_header}
use Rattle.xn_attrleaf.proofs.header.put_header.Goals as goal

pub returns : goal.returns
returns c =
    puts_header c.args.count c.args.first c.args.block.now c.put_u16.new.bytes c.put_u16-2.new.bytes c.put_counts.new.block c.put_free_map.new.block c.requires.size c.requires.room
    c.put_u16.ensures.value c.put_u16-2.ensures.value c.put_counts.ensures c.put_free_map.ensures
