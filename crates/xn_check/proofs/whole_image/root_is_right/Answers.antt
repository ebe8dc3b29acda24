use Rattle.std.proofs.Common.{arith}
use Rattle.xn_check.proofs.RootLemmas.{right_root, root_there}
use Rattle.xn_check.proofs.whole_image.root_is_right.Goals as goal

pub returns-then-entries-le-MOST_ENTRIES : goal.returns-then-entries-le-MOST_ENTRIES
returns-then-entries-le-MOST_ENTRIES c = λ m image namings are_live hold counted. (
  λ is. right_root c.args.geometry.now m image c.args.nodes.now are_live hold namings (omega (arith, counted)) (rw c.root.ensures at (c.has_directory.ensures.0 is)),
  λ right. c.has_directory.ensures.1 (rw c.root.ensures (root_there c.args.geometry.now m image c.args.nodes.now are_live hold namings right)),
)
