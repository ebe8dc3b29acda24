use Rattle.xn_attrleaf.specs.EntriesRead.{has_room}
use Rattle.xn_attrleaf.proofs.attr_leaf.AttrLeafLeaf.bounds.Goals as goal

pub ends_of-requires-clause-few : goal.ends_of-requires-clause-few
ends_of-requires-clause-few c = (has_room c.args.block.now (c.requires.leaf.1).leaf).few
