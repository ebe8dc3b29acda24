use Rattle.std.proofs.Common.{◌≡◌, ◌++◌}
use Rattle.xn_log.specs.Records.{stamp_of}
use Rattle.xn_log.specs.Spelled.{stamped_from}
use Rattle.xn_record.proofs.append.append_stamped.Given as goal

abbrev pub invariant-loop-index : goal.invariant-loop-index
invariant-loop-index l = l.bytes.items ≡ l.fn.bytes.items ++ stamped_from (stamp_of l.ring_sectors l.record.sector l.record.cycle) l.body 0 l.index
