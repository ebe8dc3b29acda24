use Rattle.xn_bytes.specs.DirectoryForms.{leaf_of}
use Rattle.xn_data.specs.Viewed.{entry_of}
use Rattle.xn_dir.proofs.Seeking.{Seeks}
use Rattle.xn_dir.proofs.index.has_leaf.Given as goal

abbrev pub invariant-loop-address : goal.invariant-loop-address
invariant-loop-address l = Seeks l.first.leaves (leaf_of (entry_of l.entry)) l.address-iterator
