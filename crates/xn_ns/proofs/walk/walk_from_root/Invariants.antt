use Rattle.std.proofs.Common.{length}
use Rattle.xn_inode.specs.Frames.{StoreStays}
use Rattle.xn_ns.specs.Steps.{place_of}
use Rattle.xn_ns.proofs.Fetches.{FetchedOn}
use Rattle.xn_ns.proofs.WalksOn.{LeadsHere}
use Rattle.xn_ns.proofs.walk.walk_from_root.Given as goal

abbrev pub invariant-loop-part : goal.invariant-loop-part
invariant-loop-part g l = record {
  stays : StoreStays g.S.Store l.fn.store l.store;
  fetches : FetchedOn (g.S.Store.shape l.fn.store) l.fn.manifest (g.S.Store.image l.fn.store) l.fn.path l.rest (g.S.Store.fetches l.fn.store) (g.S.Store.fetches l.store);
  leads : LeadsHere (g.S.Store.shape l.fn.store) l.fn.manifest (g.S.Store.image l.fn.store) l.fn.path (place_of l.here) l.rest;
}

abbrev pub decreases-loop-part : goal.decreases-loop-part
decreases-loop-part g l = length l.rest
