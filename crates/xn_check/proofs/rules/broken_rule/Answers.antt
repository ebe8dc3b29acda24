use Rattle.xn_check.specs.Known.{meant}
use Rattle.xn_check.proofs.StandLemmas.{rule_told}
use Rattle.xn_check.proofs.rules.broken_rule.Goals as goal

pub returns : goal.returns
returns c m image names_hold live holds =
    rule_told c.args.geometry.now m image (meant c.args.names.now) c.args.node.now c.broken_between-between.result c.lesser.result c.lesser.ensures
    holds (c.broken_between-between.ensures m image names_hold live holds)
