use Rattle.xn_verdicts.proofs.OneRule.{one_fault}
use Rattle.xn_verdicts.proofs.directories.directory_breaks_one_rule.Goals as goal

pub returns : goal.returns
returns c = one_fault
