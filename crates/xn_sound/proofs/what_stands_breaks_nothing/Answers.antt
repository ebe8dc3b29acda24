use Rattle.xn_sound.proofs.Standing.{breaks_nothing}
use Rattle.xn_sound.proofs.what_stands_breaks_nothing.Goals as goal

pub returns : goal.returns
returns c = λ g m image namings ino rule block stands. breaks_nothing g m image namings ino stands rule block
