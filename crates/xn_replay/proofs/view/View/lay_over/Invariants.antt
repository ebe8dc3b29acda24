use Rattle.xn_replay.proofs.Piece.{IsLaid}
use Rattle.xn_replay.proofs.view.View.lay_over.Given as goal

abbrev pub invariant-loop-k : goal.invariant-loop-k
invariant-loop-k l = IsLaid l.self.kept l.first l.k l.initial.into l.into
