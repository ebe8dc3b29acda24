use Rattle.std.proofs.Common.{◌≡◌}
use Rattle.xn_log.specs.Records.{restored_from}
use Rattle.xn_record.proofs.operations.restored_body.Given as goal

abbrev pub invariant-loop-index : goal.invariant-loop-index
invariant-loop-index l = l.body.items ≡ restored_from l.bytes 0 l.index
