use Rattle.std.proofs.Common.{◌≡◌, ◌++◌, drop}
use Rattle.std.specs.Prelude.{map}
use Rattle.xn_bytes.specs.Trees.{visit_to}
use Rattle.xn_datree.proofs.walk.ask_for_children.Given as goal

abbrev pub invariant-loop-at : goal.invariant-loop-at
invariant-loop-at l = l.agenda.items ≡ map (visit_to l.level) (drop l.at l.children) ++ l.initial.agenda.items
