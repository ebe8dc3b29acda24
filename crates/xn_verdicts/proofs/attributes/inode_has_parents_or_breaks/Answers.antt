use Rattle.xn_verdicts.proofs.OneParents.{parents_or_break}
use Rattle.xn_verdicts.proofs.attributes.inode_has_parents_or_breaks.Goals as goal

pub returns : goal.returns
returns c = parents_or_break
