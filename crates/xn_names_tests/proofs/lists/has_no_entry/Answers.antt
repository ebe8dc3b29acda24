use Rattle.std.proofs.Common.{rules, arith}
use Rattle.std.proofs.lemmas.Grind.{common_steps}
use Rattle.xn_names_tests.proofs.Required.{none_elsewhere, empty_there}
use Rattle.xn_names_tests.proofs.lists.has_no_entry.Goals as goal

pub returns-then-dir-root : goal.returns-then-dir-root
returns-then-dir-root c =
    (λ t. none_elsewhere c.args.root c.args.dir c.args.namings.now c.requires (grind (arith, common_steps)), λ e. search rules)

pub returns : goal.returns
returns c =
    let there = empty_there c.args.root c.args.dir c.args.namings.now c.requires (grind (arith, common_steps)) in
    (λ t. there.0 (grind (arith, common_steps)), λ e. let none = there.1 e in grind (arith, common_steps))
