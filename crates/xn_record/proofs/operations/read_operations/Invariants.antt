use Rattle.std.proofs.Common.{◌≡◌, ◌-◌, ◌++◌, true}
use Rattle.xn_log.specs.Records.{are_whole, operations_in}
use Rattle.xn_record.proofs.operations.read_operations.Given as goal

abbrev pub invariant-loop : goal.invariant-loop
invariant-loop l = record {
  whole : are_whole (l.count - l.counter) l.rest ≡ true;
  read : l.ops.items ++ operations_in (l.count - l.counter) l.rest ≡ operations_in l.count l.body;
}
