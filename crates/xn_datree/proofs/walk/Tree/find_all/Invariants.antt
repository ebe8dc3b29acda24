use Rattle.std.proofs.Common.{◌≡◌, ◌+◌, ◌*◌, ◌≤◌, ◌∷◌, length}
use Rattle.std.specs.Prelude.{All, IfSome, sum_by}
use Rattle.xn_bytes.specs.Trees.{levels_of_tree}
use Rattle.xn_inode.specs.Frames.{StoreStays}
use Rattle.xn_datree.specs.Forks.{tree_of}
use Rattle.xn_datree.proofs.Chains.{ChainAll}
use Rattle.xn_datree.proofs.Descents.{FollowsOn}
use Rattle.xn_datree.proofs.Fetched.{AreOnce}
use Rattle.xn_datree.proofs.walk.Tree.find_all.Given as goal

abbrev pub invariant-loop : goal.invariant-loop
invariant-loop g l = record {
  stays : StoreStays g.S.Store l.fn.store l.store;
  chain : IfSome (g.S.Store.image l.fn.store) (ChainAll (λ x. tree_of g.L.Leaf.Holds g.L.Leaf.ends (g.S.Store.shape l.fn.store) l.fn.fork x) g.L.Leaf.hash l.hash l.found.items l.trail l.left);
  follows : IfSome (g.S.Store.image l.fn.store) (FollowsOn (λ x. tree_of g.L.Leaf.Holds g.L.Leaf.ends (g.S.Store.shape l.fn.store) l.fn.fork x) l.hash l.left l.trail);
  once : AreOnce l.fn.fork.extents (l.left ∷ l.trail);
  of_hash : All (λ entry. g.L.Leaf.hash entry ≡ l.hash) l.found.items;
  most : g.S.Store.fetches l.store ≤ g.S.Store.fetches l.fn.store + 5 + length l.trail;
  room : sum_by g.L.Leaf.size l.found.items ≤ g.L.Leaf.CAPACITY * (1 + length l.trail);
  few : IfSome (g.S.Store.image l.fn.store) (λ x. g.S.Store.fetches l.store ≤ g.S.Store.fetches l.fn.store + levels_of_tree (tree_of g.L.Leaf.Holds g.L.Leaf.ends (g.S.Store.shape l.fn.store) l.fn.fork x) + length l.trail);
}
