use Rattle.xn_transactions.proofs.WalkLemmas.{walked-none}
use Rattle.xn_transactions.proofs.walk.committed_in.Goals as goal

pub loop-record-init : goal.loop-record-init
loop-record-init c = walked-none _ c.new.ensures.empty c.new-2.ensures.items
