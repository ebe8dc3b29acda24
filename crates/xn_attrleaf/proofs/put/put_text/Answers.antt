use Rattle.xn_attrleaf.proofs.Pieces.{puts_text}
use Rattle.xn_attrleaf.proofs.put.put_text.Goals as goal

pub returns : goal.returns
returns c = puts_text c.args.at c.args.block.now c.put_u8.new.bytes c.put_bytes.new.bytes c.args.name.now c.requires.size c.requires.name c.requires.place c.put_u8.ensures.value c.put_bytes.ensures.value
