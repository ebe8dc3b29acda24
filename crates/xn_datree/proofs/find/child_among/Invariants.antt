use Rattle.std.proofs.Common.{◌≡◌, drop}
use Rattle.xn_bytes.specs.Trees.{child_for}
use Rattle.xn_datree.proofs.find.child_among.Given as goal

abbrev pub invariant-loop-next : goal.invariant-loop-next
invariant-loop-next l = child_for l.hash l.taken (drop l.next-index l.others) ≡ child_for l.hash l.fn.first l.others
