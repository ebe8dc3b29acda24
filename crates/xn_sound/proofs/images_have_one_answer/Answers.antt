use Rattle.xn_sound.proofs.OneAnswer.{one_answer}
use Rattle.xn_sound.proofs.images_have_one_answer.Goals as goal

pub returns : goal.returns
returns c = one_answer
