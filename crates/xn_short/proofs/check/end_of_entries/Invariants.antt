use Rattle.std.proofs.Common.{◌+◌, drop, slice_index}
use Rattle.xn_bytes.specs.ShortDirectory.{entries_end, first_position, end_limit}
use Rattle.xn_short.specs.Widths.{byte_count}
use Rattle.xn_short.proofs.Loop.{Goes}
use Rattle.xn_short.proofs.check.end_of_entries.Given as goal

abbrev pub invariant-loop : goal.invariant-loop
invariant-loop l =
    Goes l.count l.counter (byte_count l.width) l.least l.limit l.at l.bytes
    (entries_end (slice_index l.bytes 0) (byte_count l.width) first_position (end_limit (slice_index l.bytes 0)) (2 + byte_count l.width) (drop (2 + byte_count l.width) l.bytes))
