use Rattle.xn_verdicts.proofs.OneList.{one_list}
use Rattle.xn_verdicts.proofs.directories.directory_holds_one_list.Goals as goal

pub returns : goal.returns
returns c = one_list
