use Rattle.xn_verdicts.proofs.OneFork.{attributes_or_break}
use Rattle.xn_verdicts.proofs.attributes.inode_has_attributes_or_breaks.Goals as goal

pub returns : goal.returns
returns c = attributes_or_break
