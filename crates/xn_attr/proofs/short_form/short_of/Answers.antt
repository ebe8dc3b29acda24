use Rattle.std.proofs.Common.{refl}
use Rattle.xn_attr.proofs.short_form.short_of.Goals as goal

pub returns-in-Err : goal.returns-in-Err
returns-in-Err c = rw c.of_rule.ensures (refl, refl, λ holds. c.in-Err.ensures.only holds.0 (rw c.attr_fork.ensures holds.1))
