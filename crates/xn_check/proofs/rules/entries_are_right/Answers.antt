use Rattle.xn_check.proofs.RuleLemmas.{entries_tell}
use Rattle.xn_check.proofs.WholesFound.{held_none}
use Rattle.xn_check.proofs.rules.entries_are_right.Goals as goal

pub returns-in-Some : goal.returns-in-Some
returns-in-Some c g m image namings dir known = entries_tell g m image namings dir c.args.whole c.in-Some.whole c.in-Some.is known

pub returns-in-None : goal.returns-in-None
returns-in-None c g m image namings dir known = λ entries dotdot held.
    absurd (held_none g m image namings dir c.args.whole c.in-None.is known entries dotdot held)
