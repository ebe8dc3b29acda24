use Rattle.std.proofs.Common.{◌≡◌, ◌-◌, take, sum_by}
use Rattle.xn_log.specs.declared.outline.Outline.{Outline}
use Rattle.xn_ring.proofs.ring.free_beside.Given as goal

abbrev pub invariant-loop-record : goal.invariant-loop-record
invariant-loop-record l = l.free ≡ l.ring_sectors - sum_by (λ (o : Outline). o.sectors) (take l.record-index l.live)
