use Rattle.xn_inode.specs.Frames.{StoreStays}
use Rattle.xn_show.proofs.shown.first_lost.Given as goal

abbrev pub invariant-loop-entry : goal.invariant-loop-entry
invariant-loop-entry g l = StoreStays g.S.Store l.initial.store l.store
