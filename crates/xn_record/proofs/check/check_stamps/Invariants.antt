use Rattle.std.proofs.Common.{◌≡◌, ◌-◌}
use Rattle.xn_log.specs.Records.{body_sectors, length_in}
use Rattle.xn_log.specs.RecordFaults.{stamps_fault}
use Rattle.xn_record.proofs.check.check_stamps.Given as goal

abbrev pub invariant-loop-index : goal.invariant-loop-index
invariant-loop-index l =
    stamps_fault l.ring_sectors l.sector l.bytes 0 (body_sectors (length_in l.bytes)) ≡ stamps_fault l.ring_sectors l.sector l.bytes l.index (body_sectors (length_in l.bytes) - l.index)
