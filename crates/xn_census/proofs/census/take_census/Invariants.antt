use Rattle.std.proofs.Common.{◌≡◌, map, take}
use Rattle.std.specs.Prelude.{IfSome}
use Rattle.xn_inode.specs.Frames.{StoreStays}
use Rattle.xn_facts.specs.Blocks.{IsAtHand}
use Rattle.xn_census.specs.Census.{AreAmong, CensusHolds}
use Rattle.xn_census.proofs.census.take_census.Given as goal

abbrev pub invariant-loop-ino : goal.invariant-loop-ino
invariant-loop-ino g l = record {
  stays : StoreStays g.S.Store l.fn.store l.store;
  held : IfSome (g.S.Store.image l.store) (λ x. IsAtHand (g.S.Store.shape l.store) x l.at_hand);
  among : AreAmong (take l.ino-index l.inodes) l.census.held.items;
  inodes_are : map (λ node. node.ino) l.census.nodes.items ≡ take l.ino-index l.inodes;
  holds : IfSome (g.S.Store.image l.fn.store) (λ x. CensusHolds (g.S.Store.shape l.fn.store) x (take l.ino-index l.inodes) l.census);
}
