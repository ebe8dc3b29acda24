use Rattle.std.proofs.Common.{◌+◌, ◌-◌, length}
use Rattle.xn_reach.specs.Meetings.{IsUnderWay}
use Rattle.xn_reach.proofs.reached.Reached.from.Given as goal

abbrev pub invariant-loop-number : goal.invariant-loop-number
invariant-loop-number l = IsUnderWay l.steps l.start l.numbers l.waiting.items

abbrev pub decreases-loop-number : goal.decreases-loop-number
decreases-loop-number l = (length l.steps + 1 - length l.numbers.keys) + length l.waiting.items
