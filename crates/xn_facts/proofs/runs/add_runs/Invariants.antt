use Rattle.std.proofs.Common.{◌≡◌, ◌++◌, map, take}
use Rattle.xn_facts.specs.Facts.{mapped_of}
use Rattle.xn_facts.proofs.runs.add_runs.Given as goal

abbrev pub invariant-loop-at : goal.invariant-loop-at
invariant-loop-at l = map mapped_of l.runs.items ≡ map mapped_of l.initial.runs.items ++ take l.at l.extents
