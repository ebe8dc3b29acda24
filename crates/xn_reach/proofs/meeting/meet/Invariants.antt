use Rattle.std.proofs.Common.{take}
use Rattle.xn_reach.specs.Meetings.{Meets}
use Rattle.xn_reach.proofs.meeting.meet.Given as goal

abbrev pub invariant-loop-step : goal.invariant-loop-step
invariant-loop-step l = Meets (take l.step-index l.steps) l.initial.met l.met l.initial.waiting.items l.waiting.items
