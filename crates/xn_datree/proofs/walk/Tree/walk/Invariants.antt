use Rattle.std.proofs.Common.{◌+◌, ◌≤◌, length}
use Rattle.std.specs.Prelude.{All, IfSome, sum_by}
use Rattle.xn_bytes.specs.Trees.{Met}
use Rattle.xn_inode.specs.Frames.{StoreStays}
use Rattle.xn_datree.specs.Forks.{tree_of}
use Rattle.xn_datree.proofs.Fetched.{MeetsOnce}
use Rattle.xn_datree.proofs.Walking.{Led}
use Rattle.xn_datree.proofs.Measures.{IsLow, weight}
use Rattle.xn_datree.proofs.walk.Tree.walk.Given as goal

abbrev pub invariant-loop-visit : goal.invariant-loop-visit
invariant-loop-visit g l = record {
  stays : StoreStays g.S.Store l.fn.store l.store;
  low : All (λ (one : Met). one.level ≤ 4) l.trail;
  agenda_low : All IsLow l.agenda.items;
  led : IfSome (g.S.Store.image l.fn.store) (λ x. Led (tree_of g.L.Leaf.Holds g.L.Leaf.ends (g.S.Store.shape l.fn.store) l.fn.fork x) l.entries.items l.trail l.agenda.items);
  meets : MeetsOnce l.fn.fork l.trail l.agenda.items;
  few : g.S.Store.fetches l.store ≤ g.S.Store.fetches l.fn.store + length l.trail;
}

abbrev pub decreases-loop-visit : goal.decreases-loop-visit
decreases-loop-visit g l = sum_by weight l.agenda.items
