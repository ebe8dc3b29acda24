use Rattle.std.proofs.Common.{◌∙◌}
use Rattle.xn_dir.proofs.Noted.{is_there, is_other, is_none}
use Rattle.xn_dir.proofs.bests.best_of.Goals as goal

pub returns-in_err-best : goal.returns-in_err-best
returns-in_err-best c = λ rising. c.from_residual.ensures ∙ is_none _ _ _ (c.place.ensures rising) c.in_err-best.ensures.lookup.3

pub returns-then-best-number : goal.returns-then-best-number
returns-then-best-number c = λ rising. is_there _ _ _ c.in_ok-best.best.now (c.place.ensures rising) c.in_ok-best.ensures.lookup.3.0 c.in_ok-best.ensures.lookup.1 c.if-best-number.true

pub returns-else-best-number : goal.returns-else-best-number
returns-else-best-number c = λ rising. is_other _ _ _ c.in_ok-best.best.now (c.place.ensures rising) c.in_ok-best.ensures.lookup.3.0 c.in_ok-best.ensures.lookup.1 c.if-best-number.false
