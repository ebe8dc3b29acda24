use Rattle.xn_dir.proofs.Indexes.{Looks}
use Rattle.xn_dir.proofs.index.find.Given as goal

abbrev pub invariant-loop-address : goal.invariant-loop-address
invariant-loop-address l = Looks l.first l.name l.address-iterator
