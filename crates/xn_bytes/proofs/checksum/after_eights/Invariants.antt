use Rattle.std.proofs.Common.{◌≡◌, length}
use Rattle.xn_bytes.specs.Checksum.{register_after}
use Rattle.xn_bytes.proofs.checksum.after_eights.Given as goal

abbrev pub invariant-loop-rest : goal.invariant-loop-rest
invariant-loop-rest l = register_after l.register l.rest ≡ register_after l.fn.register l.bytes

abbrev pub decreases-loop-rest : goal.decreases-loop-rest
decreases-loop-rest l = length l.rest
