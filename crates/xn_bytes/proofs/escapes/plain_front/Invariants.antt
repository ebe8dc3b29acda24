use Rattle.std.proofs.Common.{◌≡◌, take}
use Rattle.xn_bytes.specs.Escapes.{escaped}
use Rattle.xn_bytes.proofs.escapes.plain_front.Given as goal

abbrev pub invariant-loop-at : goal.invariant-loop-at
invariant-loop-at l = escaped (take l.at l.bytes) ≡ take l.at l.bytes
