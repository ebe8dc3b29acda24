use Rattle.xn_replay.specs.Overlay.{AreAllKept}
use Rattle.xn_replay.proofs.view.View.has_all.Given as goal

abbrev pub invariant-loop-k : goal.invariant-loop-k
invariant-loop-k l = AreAllKept l.self.kept l.first l.k
