use Rattle.xn_means.proofs.Accepted.{means_space}
use Rattle.xn_means.proofs.accepted_images_mean_a_name_space.Goals as goal

pub returns : goal.returns
returns c = means_space
