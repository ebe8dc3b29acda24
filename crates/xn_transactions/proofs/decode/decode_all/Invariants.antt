use Rattle.std.proofs.Common.{◌≡◌, drop}
use Rattle.xn_changes.specs.Decoded.{decoded_all}
use Rattle.xn_transactions.specs.Decoding.{committed_before}
use Rattle.xn_transactions.proofs.decode.decode_all.Given as goal

abbrev pub invariant-loop-whole : goal.invariant-loop-whole
invariant-loop-whole l = decoded_all l.wholes ≡ committed_before l.committed.items (decoded_all (drop l.whole-index l.wholes))
