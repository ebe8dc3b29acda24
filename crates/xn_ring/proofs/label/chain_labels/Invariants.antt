use Rattle.xn_ring.proofs.Labelling.{IsLabelling}
use Rattle.xn_ring.proofs.label.chain_labels.Given as goal

abbrev pub invariant-loop-outline : goal.invariant-loop-outline
invariant-loop-outline l = IsLabelling l.ring_sectors l.outlines l.newest l.outline-index l.labels.items
