use Rattle.std.proofs.Common.{◌+◌, ◌≤◌}
use Rattle.std.specs.Prelude.{IfSome}
use Rattle.xn_bytes.specs.Trees.{level_in, levels_of_tree}
use Rattle.xn_inode.specs.Frames.{StoreStays}
use Rattle.xn_datree.specs.Held.{held_of}
use Rattle.xn_datree.specs.Forks.{tree_fork, tree_of}
use Rattle.xn_datree.proofs.Descents.{IsAt}
use Rattle.xn_datree.proofs.Ways.{LeadsOn}
use Rattle.xn_datree.proofs.find.descend.Given as goal

abbrev pub invariant-loop-child : goal.invariant-loop-child
invariant-loop-child g l = record {
  stays : StoreStays g.S.Store l.fn.store l.store;
  at : IsAt (λ x. tree_of g.L.Leaf.Holds g.L.Leaf.ends (g.S.Store.shape l.fn.store) l.fn.fork x) g.L.Leaf.Holds g.L.Leaf.ends (tree_fork (g.S.Store.shape l.fn.store) l.fn.fork) g.L.Leaf.hash l.hash (g.S.Store.image l.fn.store) l.bytes l.visit (held_of l.held);
  way : IfSome (g.S.Store.image l.fn.store) (LeadsOn (λ x. tree_of g.L.Leaf.Holds g.L.Leaf.ends (g.S.Store.shape l.fn.store) l.fn.fork x) l.hash l.bytes l.visit);
  few : g.S.Store.fetches l.store + level_in l.bytes ≤ g.S.Store.fetches l.fn.store + 5;
  exact : IfSome (g.S.Store.image l.fn.store) (λ x. g.S.Store.fetches l.store + level_in l.bytes ≤ g.S.Store.fetches l.fn.store + levels_of_tree (tree_of g.L.Leaf.Holds g.L.Leaf.ends (g.S.Store.shape l.fn.store) l.fn.fork x));
}

abbrev pub decreases-loop-child : goal.decreases-loop-child
decreases-loop-child g l = level_in l.bytes
