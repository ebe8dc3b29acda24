use Rattle.std.proofs.Common.{◌-◌, ◌≤◌}
use Rattle.xn_bytes.specs.HashedTree.{leaf_file_block}
use Rattle.xn_inode.specs.Frames.{StoreStays}
use Rattle.xn_dir.specs.Gathering.{FetchesBelow, GathersBelow}
use Rattle.xn_dir.proofs.gather.gather.Given as goal

abbrev pub invariant-loop-number : goal.invariant-loop-number
invariant-loop-number g l = record {
  stays : StoreStays g.S.Store l.fn.store l.store;
  gathers : GathersBelow (g.S.Store.shape l.fn.store) l.fork (g.S.Store.image l.fn.store) l.from l.gathered;
  reads : FetchesBelow l.fork.extents l.from (g.S.Store.fetches l.fn.store) (g.S.Store.fetches l.store);
  high : l.from ≤ leaf_file_block;
  low : 1 ≤ l.from;
}

abbrev pub decreases-loop-number : goal.decreases-loop-number
decreases-loop-number g l = leaf_file_block - l.from
