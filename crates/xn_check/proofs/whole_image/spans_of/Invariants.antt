use Rattle.std.proofs.Common.{◌≡◌, map, take}
use Rattle.xn_check.specs.Spanned.{span_of}
use Rattle.xn_check.proofs.whole_image.spans_of.Given as goal

abbrev pub invariant-loop-run : goal.invariant-loop-run
invariant-loop-run l = l.spans.items ≡ map span_of (take l.run-index l.runs)
