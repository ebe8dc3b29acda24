use Rattle.xn_verdicts.proofs.SortedRecords.{one_listing}
use Rattle.xn_verdicts.proofs.attributes.inode_has_one_parent_order.Goals as goal

pub returns : goal.returns
returns c = one_listing
