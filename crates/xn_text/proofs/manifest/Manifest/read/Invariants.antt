use Rattle.std.proofs.Common.{◌≡◌, ◌+◌, ◌≤◌, ◌++◌, length}
use Rattle.xn_meaning.specs.Manifests.{lines_in, manifest_lines}
use Rattle.xn_text.proofs.manifest.Manifest.read.Given as goal

abbrev pub invariant-loop-line : goal.invariant-loop-line
invariant-loop-line l = record {
  read : lines_in l.text ≡ manifest_lines l.reader ++ lines_in l.rest;
  counted : l.number ≡ length (manifest_lines l.reader);
  few : l.number + length l.rest ≤ length l.text;
}

abbrev pub decreases-loop-line : goal.decreases-loop-line
decreases-loop-line l = length l.rest
