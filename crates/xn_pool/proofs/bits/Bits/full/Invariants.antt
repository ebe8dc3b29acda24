use Rattle.xn_pool.proofs.LeafFills.{AreFilled}
use Rattle.xn_pool.proofs.bits.Bits.full.Given as goal

abbrev pub invariant-loop-leaf : goal.invariant-loop-leaf
invariant-loop-leaf l = AreFilled l.words.items l.first_leaf l.count l.leaf
