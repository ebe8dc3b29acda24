use Rattle.xn_verdicts.proofs.OneFork.{one_attributes}
use Rattle.xn_verdicts.proofs.attributes.inode_has_one_attribute_list.Goals as goal

pub returns : goal.returns
returns c = one_attributes
