use Rattle.std.proofs.Common.{arith, rules}
use Rattle.xn_leaf.proofs.Filling.{puts_leaf}
use Rattle.xn_leaf.proofs.entry.put_entry.Goals as goal

pub returns : goal.returns
returns c =
    puts_leaf c.args.index c.args.block.now c.put_u32.new.bytes c.put_u32-2.new.bytes c.args.entry c.requires.size (omega (arith, c.requires.size, c.put_u32.ensures.length)) (omega (arith, c.requires.size, c.put_u32.ensures.length, c.put_u32-2.ensures.length)) c.requires.place
    (search rules) (search rules) (search rules) (search rules)
