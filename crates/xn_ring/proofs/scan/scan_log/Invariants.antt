use Rattle.std.proofs.Common.{◌-◌, ◌≤◌}
use Rattle.std.specs.Prelude.{IfSome}
use Rattle.xn_log.specs.Ring.{ring_of}
use Rattle.xn_machine.specs.Frames.{MachineStays}
use Rattle.xn_ring.specs.Places.{HasRing}
use Rattle.xn_ring.specs.Scans.{HavePlaces, IsNoted}
use Rattle.xn_ring.proofs.scan.scan_log.Given as goal

abbrev pub invariant-loop-start : goal.invariant-loop-start
invariant-loop-start g l = record {
  within : l.start ≤ l.sectors;
  log : HasRing l.geometry (g.M.Machine.image l.machine) (g.M.Machine.sector_count l.machine) (g.M.Machine.read_faults l.machine) (g.M.Machine.reads l.machine);
  stays : MachineStays g.M.Machine l.fn.machine l.machine;
  places : HavePlaces l.sectors l.start l.found.outlines.items;
  noted : IfSome (g.M.Machine.image l.fn.machine) (λ x. IsNoted l.geometry.uuid (ring_of l.geometry x) l.start l.found);
}

abbrev pub decreases-loop-start : goal.decreases-loop-start
decreases-loop-start g l = l.sectors - l.start
