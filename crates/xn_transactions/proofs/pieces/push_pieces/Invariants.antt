use Rattle.std.proofs.Common.{◌≡◌, ◌-◌, ◌++◌}
use Rattle.xn_changes.specs.Items.{pieces_of_word}
use Rattle.xn_transactions.proofs.pieces.push_pieces.Given as goal

abbrev pub invariant-loop-piece : goal.invariant-loop-piece
invariant-loop-piece l = l.pieces.items ++ pieces_of_word l.piece (l.piece-end - l.piece) l.bits ≡ l.initial.pieces.items ++ pieces_of_word l.from 32 l.word
