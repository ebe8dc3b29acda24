use Rattle.std.proofs.Common.{refl}
use Rattle.xn_bytes.specs.Numbers.{number_at}
use Rattle.xn_settled_tests.proofs.inodes.numbers_are_turned_round.Goals as goal

pub home-requires : goal.home-requires
unfolding number_at
home-requires g c = refl
