use Rattle.xn_means.proofs.OneSpace.{one_space}
use Rattle.xn_means.proofs.images_mean_one_name_space.Goals as goal

pub returns : goal.returns
returns c = one_space
