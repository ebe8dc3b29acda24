use Rattle.xn_verdicts.proofs.OneParents.{parents_one_rule}
use Rattle.xn_verdicts.proofs.attributes.parents_break_one_rule.Goals as goal

pub returns : goal.returns
returns c = parents_one_rule
