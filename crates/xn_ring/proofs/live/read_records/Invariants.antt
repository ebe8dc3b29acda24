use Rattle.std.proofs.Common.{◌≡◌, ◌*◌, take, map}
use Rattle.std.specs.Prelude.{All, IfSome}
use Rattle.xn_log.specs.Ring.{record_at, ring_of}
use Rattle.xn_machine.specs.Frames.{MachineStays}
use Rattle.xn_ring.specs.Places.{HasRing}
use Rattle.xn_ring.specs.Scans.{IsOutlineOf}
use Rattle.xn_ring.proofs.live.read_records.Given as goal

abbrev pub invariant-loop-outline : goal.invariant-loop-outline
invariant-loop-outline g l = record {
  log : HasRing l.geometry (g.M.Machine.image l.machine) (g.M.Machine.sector_count l.machine) (g.M.Machine.read_faults l.machine) (g.M.Machine.reads l.machine);
  stays : MachineStays g.M.Machine l.fn.machine l.machine;
  records : IfSome (g.M.Machine.image l.fn.machine)
      (λ x. All (IsOutlineOf l.geometry.uuid (ring_of l.geometry x) (8 * l.geometry.log_blocks)) l.outlines
      → l.records.items ≡ map (λ o. record_at (ring_of l.geometry x) o.sector) (take l.outline-index l.outlines));
}
