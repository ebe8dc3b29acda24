use Rattle.std.proofs.Common.{rules}
use Rattle.xn_attrleaf.proofs.Pieces.{puts_remote}
use Rattle.xn_attrleaf.proofs.put.put_remote.Goals as goal

pub returns : goal.returns
returns c =
    puts_remote c.args.place c.args.end c.args.first c.args.size c.args.block.now c.put_u32.new.bytes c.put_u32-2.new.bytes c.put_text.new.block c.put_zeros.new.bytes c.args.name.now
    c.requires.size (search rules) (search rules) c.requires.place c.requires.end c.put_u32.ensures.value c.put_u32-2.ensures.value c.put_text.ensures c.put_zeros.ensures.value
