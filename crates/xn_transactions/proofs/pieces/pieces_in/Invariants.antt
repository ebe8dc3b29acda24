use Rattle.std.proofs.Common.{◌≡◌, ◌*◌, ◌++◌, drop}
use Rattle.xn_changes.specs.Items.{pieces_from}
use Rattle.xn_transactions.proofs.pieces.pieces_in.Given as goal

abbrev pub invariant-loop-k : goal.invariant-loop-k
invariant-loop-k l = l.pieces.items ++ pieces_from (32 * l.k) (drop l.k l.words) ≡ pieces_from 0 l.words
