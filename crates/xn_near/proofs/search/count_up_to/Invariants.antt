use Rattle.std.proofs.Common.{ℕ, ◌<◌, ◌≤◌, get_or}
use Rattle.xn_near.proofs.search.count_up_to.Given as goal

-- what was looked at has no greater number
abbrev pub invariant-loop-at : goal.invariant-loop-at
invariant-loop-at g l = (k : ℕ) (d : g.row.T.Denot) → k < l.at → g.T.Numbered.number_of (get_or l.items k d) ≤ l.number
