use Rattle.std.proofs.Common.{◌≡◌, ◌+◌, ◌*◌, ◌-◌, ◌++◌, length}
use Rattle.xn_changes.specs.Items.{words_from}
use Rattle.xn_transactions.proofs.buffer.words_in.Given as goal

abbrev pub invariant-loop-k : goal.invariant-loop-k
invariant-loop-k l =
    (length l.words.items ≡ l.k) × (l.words.items ++ words_from (20 + 4 * l.k) (l.count - l.k) l.first ≡ words_from 20 l.count l.first)
