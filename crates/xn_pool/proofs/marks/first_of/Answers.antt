use Rattle.xn_pool.proofs.BitsOfWords.{first_bit}
use Rattle.xn_pool.proofs.marks.first_of.Goals as goal

pub returns : goal.returns
returns c = first_bit c.args.words.now c.args.word c.requires.some (c.type_inv.words c.args.word).fits
