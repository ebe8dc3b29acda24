use Rattle.std.proofs.Common.{◌≡◌, ◌+◌, List, ℕ}
use Rattle.xn_log.specs.Ring.{ring_sectors_of}
use Rattle.xn_ring.specs.Scans.{HavePlaces, IsNoted, IsPiece}
use Rattle.xn_ring.proofs.found.Found.note_piece.Given as goal

abbrev pub invariant-loop-k : goal.invariant-loop-k
invariant-loop-k l = record {
  noted : (ring : List ℕ) → ring_sectors_of ring ≡ l.ring_sectors → IsPiece ring l.start l.count l.bytes → IsNoted l.uuid ring l.start l.fn.self → IsNoted l.uuid ring (l.start + l.k) l.self;
  places : HavePlaces l.ring_sectors l.start l.fn.self.outlines.items → HavePlaces l.ring_sectors (l.start + l.k) l.self.outlines.items;
}
