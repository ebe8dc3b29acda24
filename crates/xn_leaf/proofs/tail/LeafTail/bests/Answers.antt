use Rattle.std.proofs.Common.{refl}
use Rattle.xn_leaf.proofs.BestsRead.{holds_tail}
use Rattle.xn_leaf.proofs.tail.LeafTail.bests.Goals as goal

pub returns : goal.returns
returns c = holds_tail c.args.block.now c.in-Ok.bests.items c.tail_count-count.result c.requires (c.if-not-has_tail.ensures.0 refl) c.tail_count-count.ensures.count c.in-Ok.ensures
