use Rattle.xn_verdicts.proofs.OneFork.{attributes_one_rule}
use Rattle.xn_verdicts.proofs.attributes.attributes_break_one_rule.Goals as goal

pub returns : goal.returns
returns c = attributes_one_rule
