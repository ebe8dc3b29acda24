use Rattle.xn_replies.proofs.Lists.{list_of_the_name_space}
use Rattle.xn_replies.proofs.replies.lists_are_those_of_the_name_space.Goals as goal

pub returns : goal.returns
returns c = λ g m image s ino end means ends. list_of_the_name_space g m image s means ino end ends
