use Rattle.xn_verdicts.proofs.OneRule.{holds_or_breaks}
use Rattle.xn_verdicts.proofs.directories.directory_holds_or_breaks.Goals as goal

pub returns : goal.returns
returns c = holds_or_breaks
