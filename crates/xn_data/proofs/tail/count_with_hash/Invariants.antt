use Rattle.std.proofs.Common.{◌≡◌, ℕ, ◌<◌}
use Rattle.xn_data.specs.Searching.{hash_at}
use Rattle.xn_data.proofs.tail.count_with_hash.Given as goal

abbrev pub invariant-loop-index : goal.invariant-loop-index
invariant-loop-index l = (k : ℕ) → k < l.index → hash_at l.at k l.bytes ≡ l.hash
