use Rattle.std.proofs.Common.{◌≡◌, ◌++◌, take}
use Rattle.xn_log.specs.Spelled.{operations_spelling}
use Rattle.xn_record.proofs.append.append_operations.Given as goal

abbrev pub invariant-loop-op : goal.invariant-loop-op
invariant-loop-op l = l.bytes.items ≡ l.fn.bytes.items ++ operations_spelling (take l.op-index l.ops)
