use Rattle.std.proofs.Common.{◌≡◌, ◌++◌}
use Rattle.std.specs.Prelude.{filter}
use Rattle.xn_bytes.specs.Numbers.{number_at}
use Rattle.xn_bytes.specs.HashedTree.{dir_leaves, is_live}
use Rattle.xn_leaf.proofs.Reading.{leaves_from}
use Rattle.xn_leaf.proofs.read.live_entries.Given as goal

abbrev pub invariant-loop-index : goal.invariant-loop-index
invariant-loop-index l = l.entries.items ++ filter is_live (leaves_from l.index (number_at 2 56 l.block) l.block) ≡ filter is_live (dir_leaves l.block)
