use Rattle.xn_short.specs.Widths.{byte_count}
use Rattle.xn_short.specs.Checks.{wide_count_in}
use Rattle.xn_short.proofs.Counting.{Counts}
use Rattle.xn_short.proofs.check.wide_count.Given as goal

abbrev pub invariant-loop : goal.invariant-loop
invariant-loop l = Counts l.count l.counter (byte_count l.width) l.wide l.at l.bytes (wide_count_in l.bytes)
