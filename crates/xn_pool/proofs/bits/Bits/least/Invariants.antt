use Rattle.std.proofs.Common.{◌-◌}
use Rattle.xn_pool.proofs.Descents.{IsDescending}
use Rattle.xn_pool.proofs.bits.Bits.least.Given as goal

abbrev pub invariant-loop-start : goal.invariant-loop-start
invariant-loop-start l = IsDescending l.self-inside.words.items l.self-inside.first_leaf l.start l.word

abbrev pub decreases-loop-start : goal.decreases-loop-start
decreases-loop-start l = l.self-inside.first_leaf - l.start
