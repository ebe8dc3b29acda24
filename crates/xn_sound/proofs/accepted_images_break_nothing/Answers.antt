use Rattle.xn_sound.proofs.Accepted.{none_broken}
use Rattle.xn_sound.proofs.accepted_images_break_nothing.Goals as goal

pub returns : goal.returns
returns c = λ g m image live namings runs rule inode block sound. none_broken g m image live namings runs rule inode block sound
