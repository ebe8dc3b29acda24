use Rattle.xn_pool.proofs.BitsOfWords.{set_at}
use Rattle.xn_pool.proofs.marks.mark.Goals as goal

pub returns : goal.returns
returns c = set_at c.args.words.now c.args.place c.requires
