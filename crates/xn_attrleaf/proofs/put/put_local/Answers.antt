use Rattle.xn_attrleaf.proofs.Pieces.{puts_local}
use Rattle.xn_attrleaf.proofs.put.put_local.Goals as goal

pub returns : goal.returns
returns c =
    puts_local c.args.place c.args.end c.args.block.now c.put_u16.new.bytes c.put_text.new.block c.put_bytes.new.bytes c.put_zeros.new.bytes c.args.name.now c.args.value.now
    c.requires.size c.requires.value c.requires.place c.requires.end c.put_u16.ensures.value c.put_text.ensures c.put_bytes.ensures.value c.put_zeros.ensures.value
