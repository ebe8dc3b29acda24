use Rattle.std.proofs.Common.{◌≡◌, ◌≤◌, ◌-◌, drop}
use Rattle.xn_log.specs.Records.{are_whole, body_of, count_in, length_in}
use Rattle.xn_record.proofs.body.are_whole.Given as goal

abbrev pub invariant-loop : goal.invariant-loop
invariant-loop l = record {
  within : l.place ≤ length_in l.bytes;
  same : are_whole (count_in l.bytes - l.counter) (drop l.place (body_of l.bytes)) ≡ are_whole (count_in l.bytes) (body_of l.bytes);
}
