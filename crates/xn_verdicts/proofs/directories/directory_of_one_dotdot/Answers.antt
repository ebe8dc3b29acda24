use Rattle.xn_verdicts.proofs.OneList.{one_dotdot}
use Rattle.xn_verdicts.proofs.directories.directory_of_one_dotdot.Goals as goal

pub returns : goal.returns
returns c = one_dotdot
