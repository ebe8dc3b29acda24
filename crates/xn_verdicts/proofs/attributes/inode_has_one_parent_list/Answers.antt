use Rattle.xn_verdicts.proofs.OneParents.{one_parents}
use Rattle.xn_verdicts.proofs.attributes.inode_has_one_parent_list.Goals as goal

pub returns : goal.returns
returns c = one_parents
