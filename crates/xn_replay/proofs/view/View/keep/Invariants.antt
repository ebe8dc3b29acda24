use Rattle.std.proofs.Common.{◌≡◌, ◌*◌, take}
use Rattle.xn_replay.specs.Overlay.{LaysOver}
use Rattle.xn_replay.proofs.view.View.keep.Given as goal

abbrev pub invariant-loop-k : goal.invariant-loop-k
invariant-loop-k l = record {
  others : l.self ≡ record l.fn.self { kept = l.self.kept };
  laid : LaysOver l.fn.self.kept l.self.kept l.first (take (512 * l.k) l.bytes);
}
