use Rattle.std.proofs.Common.{arith}
use Rattle.std.proofs.lemmas.Grind.{common_steps}
use Rattle.xn_names_tests.proofs.Required.{reached_where_named}
use Rattle.xn_names_tests.proofs.lists.is_reached.Goals as goal

pub returns : goal.returns
returns c =
    let there = reached_where_named c.args.root c.args.dir c.args.namings.now c.naming.result.now c.requires.in_root (grind (arith, common_steps)) c.naming.ensures.viewed in
    (λ t. there.0 (grind (arith, common_steps)), λ w. let some = there.1 w in grind (arith, common_steps))
