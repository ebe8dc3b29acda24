use Rattle.std.proofs.lemmas.Slice.Eq.{slice_eq-Decides}
use Rattle.xn_dir.proofs.Comparing.{same_entry}
use Rattle.xn_dir.proofs.compare.are_equal.Goals as goal

pub returns : goal.returns
returns c = slice_eq-Decides same_entry _ _ _ c.eq.ensures
