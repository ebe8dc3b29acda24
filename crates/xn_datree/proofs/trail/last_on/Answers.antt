use Rattle.std.proofs.Common.{◌∙◌, ap, sym, rules}
use Rattle.xn_bytes.specs.Trees.{Met}
use Rattle.xn_datree.proofs.Trails.{found_there, goes_past, none_there}
use Rattle.xn_datree.proofs.trail.last_on.Goals as goal

pub returns-then-one-level : goal.returns-then-one-level
returns-then-one-level c =
    found_there c.args.level c.loop-at.at c.args.met.now.items c.index-one.result.now (search rules) (search rules)
    (ap (λ (m : Met). m.level) (sym c.one.view_is) ∙ c.if-one-level.true) c.loop-at.invariant

pub loop-at-preserved : goal.loop-at-preserved
loop-at-preserved c =
    goes_past c.args.level c.loop-at.at c.args.met.now.items c.index-one.result.now (search rules) (search rules)
    (λ same. c.if-one-level.false (ap (λ (m : Met). m.level) c.one.view_is ∙ same)) c.loop-at.invariant

pub returns : goal.returns
returns c = none_there c.args.level c.loop-at.at c.args.met.now.items (search rules) c.loop-at.invariant
