use Rattle.std.proofs.Common.{rules}
use Rattle.xn_attrleaf.proofs.Pieces.{puts_entry}
use Rattle.xn_attrleaf.proofs.put.put_entry.Goals as goal

pub returns : goal.returns
returns c =
    puts_entry c.args.index c.args.entry.hash c.args.entry.place c.args.entry.flags c.args.block.now c.put_u32.new.bytes c.put_u16.new.bytes c.put_u8.new.bytes c.put_u8-2.new.bytes c.requires.size c.requires.place
    (search rules) (search rules) (search rules) (search rules) (search rules) (search rules) (search rules)
