use Rattle.xn_dir.proofs.Repeats.{RepeatsBelow}
use Rattle.xn_dir.proofs.listing.repeated_hashes.Given as goal

abbrev pub invariant-loop-next : goal.invariant-loop-next
invariant-loop-next l = RepeatsBelow l.leaves l.next l.repeated.items
