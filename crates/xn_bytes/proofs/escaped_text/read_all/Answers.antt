use Rattle.std.proofs.Common.{◌<◌, length, arith}
use Rattle.std.proofs.lemmas.Grind.{common_steps}
use Rattle.xn_bytes.proofs.EscapeLemmas.{first_bad}
use Rattle.xn_bytes.proofs.escaped_text.read_all.Goals as goal

pub returns-in-None-clause-exact : goal.returns-in-None-clause-exact
returns-in-None-clause-exact c =
    let some : 0 < length c.loop-rest.rest.now = grind (arith, common_steps) in
    first_bad _ _ c.loop-rest.bytes.items c.loop-rest.invariant.read c.loop-rest.invariant.small some c.in-None.ensures.none
