use Rattle.xn_attrleaf.specs.EntriesRead.{has_room}
use Rattle.xn_attrleaf.proofs.attr_leaf.AttrLeafLeaf.entries.Goals as goal

pub attributes_of-requires-clause-few : goal.attributes_of-requires-clause-few
attributes_of-requires-clause-few c = (has_room c.args.block.now (c.is_leaf.ensures.0 c.if-not-is_leaf.false)).few
