use Rattle.std.proofs.Common.{ℕ, ◌+◌, ◌<◌, ◌≤◌, get_or}
use Rattle.std.specs.Prelude.{IfSome}
use Rattle.xn_bytes.specs.DataBlock.{LeafEntry}
use Rattle.xn_inode.specs.Frames.{StoreStays}
use Rattle.xn_dir.specs.Hashed.{LeadsElsewhere, dir_fork}
use Rattle.xn_dir.proofs.hashed_form.find_among.Given as goal

abbrev pub invariant-loop-leaf : goal.invariant-loop-leaf
invariant-loop-leaf g l = record {
  stays : StoreStays g.S.Store l.fn.store l.store;
  passed : IfSome (g.S.Store.image l.fn.store) (λ x. (k : ℕ) (d : LeafEntry) → k < l.leaf-index → LeadsElsewhere (dir_fork (g.S.Store.shape l.fn.store) l.fork x) l.name (get_or l.leaves k d));
  few : g.S.Store.fetches l.store ≤ g.S.Store.fetches l.fn.store + l.leaf-index;
}
