use Rattle.xn_bytes.specs.DataBlock.{LeafEntry, leaves_at}
use Rattle.xn_bytes.specs.Numbers.{number_at}
use Rattle.xn_datree.proofs.Rising.{GoesOn}
use Rattle.xn_leaf.proofs.Reading.{leaves_from}
use Rattle.xn_leaf.proofs.read.is_rising.Given as goal

abbrev pub invariant-loop-index : goal.invariant-loop-index
invariant-loop-index l = GoesOn (λ (leaf : LeafEntry). leaf.hash) (leaves_at (number_at 2 56 l.block) 64 l.block) l.least (leaves_from l.index (number_at 2 56 l.block) l.block)
