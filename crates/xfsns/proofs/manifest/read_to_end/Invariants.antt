use Rattle.std.proofs.Common.{◌≤◌, ◌+◌, ◌-◌, length}
use Rattle.xn_meaning.specs.Manifests.{most_bytes}
use Rattle.xfsns.proofs.ManifestLemmas.{IsGathered}
use Rattle.xfsns.proofs.manifest.read_to_end.Given as goal

abbrev pub invariant-loop-piece : goal.invariant-loop-piece
invariant-loop-piece g l = record {
  later : g.F.Source.faults l.fn.source ≤ g.F.Source.faults l.source;
  gathered : IsGathered (g.F.Source.left l.fn.source) (g.F.Source.left l.source) l.text.items;
}

abbrev pub decreases-loop-piece : goal.decreases-loop-piece
decreases-loop-piece g l = most_bytes + 1 - length l.text.items
