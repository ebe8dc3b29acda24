use Rattle.std.proofs.Common.{◌≡◌, ◌++◌}
use Rattle.xn_log.specs.Spelled.{first_words}
use Rattle.xn_record.proofs.append.append_first_words.Given as goal

abbrev pub invariant-loop-index : goal.invariant-loop-index
invariant-loop-index l = l.bytes.items ≡ l.fn.bytes.items ++ first_words l.body 0 l.index
