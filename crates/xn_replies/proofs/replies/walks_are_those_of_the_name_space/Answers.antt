use Rattle.xn_replies.proofs.Walked.{walk_of_the_name_space}
use Rattle.xn_replies.proofs.replies.walks_are_those_of_the_name_space.Goals as goal

pub returns : goal.returns
returns c = λ g m image path s end means ends. walk_of_the_name_space g m image s means path end ends
