-- What is said of the steps that were sorted out is said of the entries in order.
use Rattle.std.proofs.Common.{refl}
use Rattle.xn_check.proofs.JudgeLemmas.{led_in_order}
use Rattle.xn_check.proofs.judge.names_of.Goals as goal

pub returns-clause-names : goal.returns-clause-names
returns-clause-names c = record {
  wholes = refl;
  namings = c.in_order.ensures.same;
  leads =
      led_in_order c.args.geometry.now c.args.out c.in_order.result.items c.in_ok-reached.reached c.requires c.in_order.ensures.same
      c.in_ok-reached.ensures;
}
