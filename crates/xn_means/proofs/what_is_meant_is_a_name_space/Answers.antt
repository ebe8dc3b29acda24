use Rattle.xn_means.proofs.Meant.{is_name_space}
use Rattle.xn_means.proofs.what_is_meant_is_a_name_space.Goals as goal

pub returns : goal.returns
returns c = is_name_space
