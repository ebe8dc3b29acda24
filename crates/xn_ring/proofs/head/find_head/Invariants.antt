use Rattle.xn_ring.specs.Labels.{AreLabels}
use Rattle.xn_ring.proofs.Heads.{IsSearch}
use Rattle.xn_ring.proofs.head.find_head.Given as goal

abbrev pub invariant-loop-outline : goal.invariant-loop-outline
invariant-loop-outline l = record {
  labels : AreLabels l.ring_sectors l.outlines l.labels.items;
  search : IsSearch l.ring_sectors l.outlines l.outline-items l.outline-index;
}
