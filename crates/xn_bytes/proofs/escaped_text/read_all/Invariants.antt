use Rattle.std.proofs.Common.{◌≡◌, ◌<◌, ◌++◌, length, All}
use Rattle.xn_bytes.specs.Escapes.{escaped}
use Rattle.xn_bytes.proofs.escaped_text.read_all.Given as goal

abbrev pub invariant-loop-rest : goal.invariant-loop-rest
invariant-loop-rest l = record {
  read : l.text ≡ escaped l.bytes.items ++ l.rest;
  small : All (λ byte. byte < 256) l.bytes.items;
}

abbrev pub decreases-loop-rest : goal.decreases-loop-rest
decreases-loop-rest l = length l.rest
